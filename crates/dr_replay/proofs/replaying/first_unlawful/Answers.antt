use Rattle.std.proofs.Common.{◌∙◌, ap, arith}
use Rattle.dr_replay.specs.Values.{in_force, runs_told}
use Rattle.dr_replay.proofs.LawfulAt.{runs_more, lawful_more, first_at, first_not_lawful}
use Rattle.dr_replay.proofs.replaying.first_unlawful.Goals as goal

pub returns-then-not-branch-clause-first : goal.returns-then-not-branch-clause-first
returns-then-not-branch-clause-first c =
    first_at (in_force c.args.estate.now c.args.plans.now) c.args.records.now c.loop-i.i c.index-records-i.result (runs_told c.deref.result.now) c.in_ok-may_come.field-0
    (omega arith) c.index-records-i.is c.loop-i.invariant.lawful (ap runs_told c.deref.ensures.value ∙ c.loop-i.invariant.told) c.in_ok-may_come.ensures c.if-not-branch.true

pub returns-then-not-branch-clause-lawful : goal.returns-then-not-branch-clause-lawful
returns-then-not-branch-clause-lawful c =
    (λ none. absurd cc, λ lawful. absurd (first_not_lawful (in_force c.args.estate.now c.args.plans.now) c.args.records.now c.loop-i.i (returns-then-not-branch-clause-first c) lawful))

pub loop-i-preserved : goal.loop-i-preserved
loop-i-preserved c =
    let setting = in_force c.args.estate.now c.args.plans.now in
    let records = c.args.records.now in
    let item = c.index-records-i.result in
    record {
      told = runs_more setting records c.loop-i.i item (runs_told c.loop-i.runs.items) (runs_told c.add_record.new.runs.items)
          (omega arith) c.index-records-i.is c.loop-i.invariant.told c.in_ok-add_record.ensures;
      lawful = lawful_more setting records c.loop-i.i item (runs_told c.deref.result.now) c.in_ok-may_come.field-0
          (omega arith) c.index-records-i.is c.loop-i.invariant.lawful (ap runs_told c.deref.ensures.value ∙ c.loop-i.invariant.told) c.in_ok-may_come.ensures c.if-not-branch.false;
    }
