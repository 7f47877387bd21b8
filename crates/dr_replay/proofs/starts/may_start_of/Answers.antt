use Rattle.std.proofs.Common.{◌∙◌}
use Rattle.dr_replay.proofs.starts.may_start_of.Goals as goal

pub returns : goal.returns
returns c plans = (
  (λ one_side. record {
    numbered = c.is_numbered.ensures.0 c.if-not-is_numbered.false;
    new_id = c.is_new_id.ensures.0 c.if-not-is_new_id.false;
    forced = c.may_force.ensures.0 c.if-not-may_force.false;
    groups = c.names_groups.ensures.0 c.if-not-names_groups.false;
    pairs = c.names_pairs.ensures.0 c.if-not-names_pairs.false;
    reads = c.are_pair_rows.ensures.0 c.if-not-are_pair_rows.false;
    over = c.if-row-over_for.false ∙ c.over_for.ensures;
    free = c.are_free.ensures.0 c.if-not-are_free.false;
    phases = c.have_phases.ensures.0 c.if-not-have_phases.false;
    one_side = (c.are_on_one_side.ensures plans).0 one_side;
  }),
  λ may. (c.are_on_one_side.ensures plans).1 may.one_side,
)
