use Rattle.std.proofs.Common.{◌≡◌, ◌≤◌, List, ℕ, length, replicate, subst, sym, ap, ◌∙◌, arith}
use Rattle.std.proofs.lemmas.List.{length-replicate}
use Rattle.dr_disk.specs.Spans.{SameOutside}
use Rattle.dr_disk.specs.Disk.{written}
use Rattle.dr_disk.specs.Memory.{MemoryDisk}
use Rattle.dr_disk.proofs.Written.{length-written, same_outside_write, same_outside_writes, images_of_write}
use Rattle.dr_disk.proofs.mem_disk.MemDiskDisk.write_at.Goals as goal

pub invariant_of-self-2 : goal.invariant_of-self-2
invariant_of-self-2 c =
    let disk = c.self.inside in
    let spans = c.add_span.new.spans.items in
    let bytes : List ℕ = c.args.bytes.now in
    let marks : List ℕ = replicate (length bytes) 165 in
    let as_many : length marks ≡ length bytes = length-replicate _ _ in
    let limit = ap (λ (disk : MemoryDisk). disk.limit) c.self.view_is in
    let inside : c.args.at ≤ length disk.bytes.items = omega (arith, ap (λ (disk : MemoryDisk). length disk.bytes) c.self.view_is) in
    let inside_torn : c.args.at ≤ length disk.torn.items = omega (arith, c.self.invariant.3) in
    let synced : SameOutside spans disk.synced.items (written c.args.at bytes disk.bytes.items) =
    same_outside_write disk.changes.items spans c.args.at disk.synced.items bytes disk.bytes.items c.self.invariant.8 inside c.add_span.ensures.spans c.add_span.ensures.span in
    let torn : SameOutside spans (written c.args.at marks disk.torn.items) (written c.args.at bytes disk.bytes.items) =
    same_outside_writes disk.changes.items spans c.args.at marks disk.torn.items bytes disk.bytes.items c.self.invariant.9 inside inside_torn as_many c.add_span.ensures.spans c.add_span.ensures.span in
    let bytes_length = ap (λ (file : List ℕ). length file) c.put.ensures.items ∙ length-written c.args.at bytes disk.bytes.items inside in
    let torn_length = ap (λ (file : List ℕ). length file) c.blot.ensures.items ∙ length-written c.args.at marks disk.torn.items inside_torn in (
      omega arith,
      omega arith,
      omega arith,
      omega arith,
      omega arith,
      omega arith,
      omega arith,
      omega arith,
      subst (λ (file : List ℕ). SameOutside spans disk.synced.items file) (sym c.put.ensures.items) synced,
      subst (λ (file : List ℕ). SameOutside spans c.blot.new.file.items file) (sym c.put.ensures.items)
          (subst (λ (file : List ℕ). SameOutside spans file (written c.args.at bytes disk.bytes.items)) (sym c.blot.ensures.items) torn),
    )

pub returns-clause-images : goal.returns-clause-images
returns-clause-images c =
    let view = c.self.view_is in
    let bytes = ap (λ (disk : MemoryDisk). written c.args.at c.args.bytes.now disk.bytes) view in
    let torn = ap (λ (disk : MemoryDisk). written c.args.at (replicate (length c.args.bytes.now) 165) disk.torn) view in
    let same : length c.args.self.now.torn ≡ length c.args.self.now.bytes = omega (arith, c.self.invariant.3, ap (λ (disk : MemoryDisk). length disk.torn) view, ap (λ (disk : MemoryDisk). length disk.bytes) view) in
    let new : MemoryDisk = record c.args.self.now { bytes = c.put.new.file.items; synced = c.self.inside.synced.items; torn = c.blot.new.file.items } in
    images_of_write c.args.at c.args.bytes.now c.args.self.now new c.requires.inside same (c.put.ensures.items ∙ bytes) (ap (λ (disk : MemoryDisk). disk.synced) view) (c.blot.ensures.items ∙ torn)
