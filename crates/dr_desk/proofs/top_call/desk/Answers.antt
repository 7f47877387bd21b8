use Rattle.std.proofs.Common.{inr, arith, refl}
use Rattle.dr_desk.proofs.CallLaws.{bad_words, refused, groups_shown, plan_shown, complete, done, snapshots_first, whole_groups, no_pairs, in_order, in_order_at_rest, others, others_at_rest, protected_side, reports, untouched}
use Rattle.dr_desk.proofs.top_call.desk.Goals as goal

pub returns-clause-bad_words : goal.returns-clause-bad_words
returns-clause-bad_words g c = bad_words g.S.Source.tells g.K.Sink.tells g.A.Array.tells g.P.Port.tells _ _ _ _ _ _ _ c.answer_in.ensures.answers

pub returns-clause-refused : goal.returns-clause-refused
returns-clause-refused g c = λ tells command is_command reading is_reading due is. refused g.S.Source.tells g.K.Sink.tells g.A.Array.tells g.P.Port.tells _ _ _ _ _ _ _ c.answer_in.ensures.answers tells command is_command reading is_reading due is

pub returns-clause-groups_shown : goal.returns-clause-groups_shown
returns-clause-groups_shown g c = λ tells estate comes. groups_shown g.S.Source.tells g.K.Sink.tells g.A.Array.tells g.P.Port.tells _ _ _ _ _ _ _ c.answer_in.ensures.answers tells estate comes

pub returns-clause-plan_shown : goal.returns-clause-plan_shown
returns-clause-plan_shown g c = λ tells estate plan comes. plan_shown g.S.Source.tells g.K.Sink.tells g.A.Array.tells g.P.Port.tells _ _ _ _ _ _ _ c.answer_in.ensures.answers tells estate plan comes

pub returns-clause-complete : goal.returns-clause-complete
returns-clause-complete g c = λ tells array_tells port_tells estate plan asks pairs machines none. complete g.S.Source.tells g.K.Sink.tells g.A.Array.tells g.P.Port.tells _ _ _ _ _ _ _ c.answer_in.ensures.answers tells estate plan asks array_tells port_tells pairs machines none

pub returns-clause-done : goal.returns-clause-done
returns-clause-done g c = λ tells zero estate plan asks. done g.S.Source.tells g.K.Sink.tells g.A.Array.tells g.P.Port.tells _ _ _ _ _ _ _ c.answer_in.ensures.answers tells estate plan asks zero

pub returns-clause-snapshots_first : goal.returns-clause-snapshots_first
returns-clause-snapshots_first g c = λ tells array_tells opening six estate plan asks. snapshots_first g.S.Source.tells g.K.Sink.tells g.A.Array.tells g.P.Port.tells _ _ _ _ _ _ _ c.answer_in.ensures.answers tells estate plan asks array_tells opening six

pub returns-clause-whole_groups : goal.returns-clause-whole_groups
returns-clause-whole_groups g c = λ tells array_tells opening five estate plan asks. whole_groups g.S.Source.tells g.K.Sink.tells g.A.Array.tells g.P.Port.tells _ _ _ _ _ _ _ c.answer_in.ensures.answers tells estate plan asks array_tells opening five

pub returns-clause-no_pairs : goal.returns-clause-no_pairs
returns-clause-no_pairs g c = λ tells estate plan asks none. no_pairs g.S.Source.tells g.K.Sink.tells g.A.Array.tells g.P.Port.tells _ _ _ _ _ _ _ c.answer_in.ensures.answers tells estate plan asks none

pub returns-clause-untouched : goal.returns-clause-untouched
returns-clause-untouched g c = untouched g.S.Source.tells g.K.Sink.tells g.A.Array.tells g.P.Port.tells _ _ _ _ _ _ _ c.answer_in.ensures.answers

pub returns-clause-reports : goal.returns-clause-reports
returns-clause-reports g c = reports g.S.Source.tells g.K.Sink.tells g.A.Array.tells g.P.Port.tells _ _ _ _ _ _ _ c.answer_in.ensures.answers

pub returns-clause-in_order : goal.returns-clause-in_order
returns-clause-in_order g c = λ tells port_tells opening estate plan asks. in_order g.S.Source.tells g.K.Sink.tells g.A.Array.tells g.P.Port.tells _ _ _ _ _ _ _ c.answer_in.ensures.answers tells estate plan asks (in_order_at_rest g.A.Array.state g.P.Port.state c.args.array.now c.args.ports.now.items estate plan opening) port_tells opening

pub returns-clause-protected_side : goal.returns-clause-protected_side
returns-clause-protected_side g c = protected_side g.S.Source.tells g.K.Sink.tells g.A.Array.tells g.P.Port.tells _ _ _ _ _ _ _ c.answer_in.ensures.answers

pub returns-clause-others : goal.returns-clause-others
returns-clause-others g c = λ tells estate plan asks. others g.S.Source.tells g.K.Sink.tells g.A.Array.tells g.P.Port.tells _ _ _ _ _ _ _ c.answer_in.ensures.answers tells estate plan asks

pub returns-in_default-clause-refused : goal.returns-in_default-clause-refused
returns-in_default-clause-refused g c = λ tells command is_command reading is_reading due is. inr (inr (inr (record { status_is = c.ended_silent.ensures.status; written = λ told. refl })))

pub returns-in_default-clause-done : goal.returns-in_default-clause-done
returns-in_default-clause-done g c = λ tells zero estate plan asks. absurd (omega (arith, c.ended_silent.ensures.status, zero))

pub returns-in_default-clause-snapshots_first : goal.returns-in_default-clause-snapshots_first
returns-in_default-clause-snapshots_first g c = λ tells array_tells opening six estate plan asks. absurd (omega (arith, c.ended_silent.ensures.status, six))

pub returns-in_default-clause-whole_groups : goal.returns-in_default-clause-whole_groups
returns-in_default-clause-whole_groups g c = λ tells array_tells opening five estate plan asks. absurd (omega (arith, c.ended_silent.ensures.status, five))

pub returns-in_default-clause-in_order : goal.returns-in_default-clause-in_order
returns-in_default-clause-in_order g c = λ tells port_tells opening estate plan asks. in_order_at_rest g.A.Array.state g.P.Port.state c.args.array.now c.args.ports.now.items estate plan opening

pub returns-in_default-clause-others : goal.returns-in_default-clause-others
returns-in_default-clause-others g c = λ tells estate plan asks. others_at_rest g.A.Array.tells g.P.Port.tells plan _ _ refl
