use Rattle.std.proofs.Common.{◌≡◌, ◌+◌, ◌-◌, ◌<◌, ◌^◌, length, ◌∙◌, ap, arith}
use Rattle.dr_journal.specs.State.{JournalState}
use Rattle.dr_journal.proofs.AppendCalls.{all_of, written_once, written_twice, appended, open_after}
use Rattle.dr_journal.proofs.journal.Journal.append.Goals as goal

pub returns-in_err-write_at-clause-any_exit : goal.returns-in_err-write_at-clause-any_exit
returns-in_err-write_at-clause-any_exit g c =
    let end_is = ap (λ (state : JournalState). state.file_length) c.self.view_is in
    let room_is = ap (λ (state : JournalState). state.room) c.self.view_is in
    let fits : c.args.self.now.file_length + (5 + length c.args.body.now) < 2 ^ 32 = omega (arith, end_is, room_is, c.self.invariant) in
    let back : c.self.inside.end - 1 + 1 ≡ c.self.inside.end = omega (arith, c.self.invariant) in
    written_once c.args.self.now _ _ c.requires.open c.args.body.now _ (c.deref.ensures.value ∙ c.fill.ensures.items) fits c.self.inside.end (c.self.inside.end - 1) end_is back _ _ c.write_at.ensures.images

pub returns-in_err-sync-clause-any_exit : goal.returns-in_err-sync-clause-any_exit
returns-in_err-sync-clause-any_exit g c =
    let end_is = ap (λ (state : JournalState). state.file_length) c.self.view_is in
    let room_is = ap (λ (state : JournalState). state.room) c.self.view_is in
    let fits : c.args.self.now.file_length + (5 + length c.args.body.now) < 2 ^ 32 = omega (arith, end_is, room_is, c.self.invariant) in
    let back : c.self.inside.end - 1 + 1 ≡ c.self.inside.end = omega (arith, c.self.invariant) in
    λ f here. written_once c.args.self.now _ _ c.requires.open c.args.body.now _ (c.deref.ensures.value ∙ c.fill.ensures.items) fits c.self.inside.end (c.self.inside.end - 1) end_is back _ _ c.write_at.ensures.images f (c.sync.ensures.images f here)

pub returns-in_err-write_at-2-clause-any_exit : goal.returns-in_err-write_at-2-clause-any_exit
returns-in_err-write_at-2-clause-any_exit g c =
    let end_is = ap (λ (state : JournalState). state.file_length) c.self.view_is in
    let room_is = ap (λ (state : JournalState). state.room) c.self.view_is in
    let fits : c.args.self.now.file_length + (5 + length c.args.body.now) < 2 ^ 32 = omega (arith, end_is, room_is, c.self.invariant) in
    let back : c.self.inside.end - 1 + 1 ≡ c.self.inside.end = omega (arith, c.self.invariant) in
    written_twice c.args.self.now _ _ c.requires.open c.args.body.now _ (c.deref.ensures.value ∙ c.fill.ensures.items) fits c.self.inside.end (c.self.inside.end - 1) end_is back _ _ c.write_at.ensures.images _ c.in_ok-write_at.ensures.written _ c.sync.ensures.images c.in_ok-sync.ensures.one _ c.write_at-2.ensures.images

pub returns-in_err-sync-2-clause-any_exit : goal.returns-in_err-sync-2-clause-any_exit
returns-in_err-sync-2-clause-any_exit g c =
    let end_is = ap (λ (state : JournalState). state.file_length) c.self.view_is in
    let room_is = ap (λ (state : JournalState). state.room) c.self.view_is in
    let fits : c.args.self.now.file_length + (5 + length c.args.body.now) < 2 ^ 32 = omega (arith, end_is, room_is, c.self.invariant) in
    let back : c.self.inside.end - 1 + 1 ≡ c.self.inside.end = omega (arith, c.self.invariant) in
    λ f here. written_twice c.args.self.now _ _ c.requires.open c.args.body.now _ (c.deref.ensures.value ∙ c.fill.ensures.items) fits c.self.inside.end (c.self.inside.end - 1) end_is back _ _ c.write_at.ensures.images _ c.in_ok-write_at.ensures.written _ c.sync.ensures.images c.in_ok-sync.ensures.one _ c.write_at-2.ensures.images f (c.sync-2.ensures.images f here)

pub returns-clause-appended : goal.returns-clause-appended
returns-clause-appended g c =
    let end_is = ap (λ (state : JournalState). state.file_length) c.self.view_is in
    let room_is = ap (λ (state : JournalState). state.room) c.self.view_is in
    let fits : c.args.self.now.file_length + (5 + length c.args.body.now) < 2 ^ 32 = omega (arith, end_is, room_is, c.self.invariant) in
    let back : c.self.inside.end - 1 + 1 ≡ c.self.inside.end = omega (arith, c.self.invariant) in
    appended c.args.self.now _ _ c.requires.open c.args.body.now _ (c.deref.ensures.value ∙ c.fill.ensures.items) fits c.self.inside.end (c.self.inside.end - 1) end_is back _ _ c.write_at.ensures.images _ c.in_ok-write_at.ensures.written _ c.sync.ensures.images c.in_ok-sync.ensures.one _ c.write_at-2.ensures.images _ _ c.sync.ensures.same c.in_ok-write_at-2.ensures.written _ c.sync-2.ensures.images c.in_ok-sync-2.ensures.one

pub returns-clause-open : goal.returns-clause-open
returns-clause-open g c =
    let end_is = ap (λ (state : JournalState). state.file_length) c.self.view_is in
    let room_is = ap (λ (state : JournalState). state.room) c.self.view_is in
    let fits : c.args.self.now.file_length + (5 + length c.args.body.now) < 2 ^ 32 = omega (arith, end_is, room_is, c.self.invariant) in
    let back : c.self.inside.end - 1 + 1 ≡ c.self.inside.end = omega (arith, c.self.invariant) in
    open_after c.args.self.now _ _ c.requires.open c.args.body.now _ (c.deref.ensures.value ∙ c.fill.ensures.items) fits c.self.inside.end (c.self.inside.end - 1) end_is back _ _ c.write_at.ensures.images _ c.in_ok-write_at.ensures.written _ c.sync.ensures.images c.in_ok-sync.ensures.one _ c.write_at-2.ensures.images _ _ c.sync.ensures.same c.in_ok-write_at-2.ensures.written _ c.sync-2.ensures.images c.in_ok-sync-2.ensures.one _ _ (omega (arith, end_is)) c.sync-2.ensures.same (λ f reads. g.met.D.Disk.finds c.sync-2.new.self f reads)

pub returns-clause-any_exit : goal.returns-clause-any_exit
returns-clause-any_exit g c =
    let end_is = ap (λ (state : JournalState). state.file_length) c.self.view_is in
    let room_is = ap (λ (state : JournalState). state.room) c.self.view_is in
    let fits : c.args.self.now.file_length + (5 + length c.args.body.now) < 2 ^ 32 = omega (arith, end_is, room_is, c.self.invariant) in
    let back : c.self.inside.end - 1 + 1 ≡ c.self.inside.end = omega (arith, c.self.invariant) in
    λ f here. let was = appended c.args.self.now _ _ c.requires.open c.args.body.now _ (c.deref.ensures.value ∙ c.fill.ensures.items) fits c.self.inside.end (c.self.inside.end - 1) end_is back _ _ c.write_at.ensures.images _ c.in_ok-write_at.ensures.written _ c.sync.ensures.images c.in_ok-sync.ensures.one _ c.write_at-2.ensures.images _ _ c.sync.ensures.same c.in_ok-write_at-2.ensures.written _ c.sync-2.ensures.images c.in_ok-sync-2.ensures.one f here in (was.0, was.1, all_of c.args.body.now was.0 f was.2)
