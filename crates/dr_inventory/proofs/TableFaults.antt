-- Nothing that is wrong with a table is that it is no TOML.
use Rattle.std.proofs.Common.{◌≡◌, ℕ, ◌+◌, Bool, true, false, cond, nat_lt, List, [], ◌∷◌, ◌++◌, length, map, flat_map, filter, not, codes, Option, Some, None, ℤ, Result, Ok, Err, pos, refl}
use Rattle.std.specs.List.{list_all}
use Rattle.std.proofs.lemmas.Bool.{and_parts}
use Rattle.toml.specs.Data.{Data, Items, no_items, item, Members, get_member, as_integer, as_str, as_array, as_table}
use Rattle.dr_base.specs.declared.estate_fault.EstateFault.{EstateFault}
use Rattle.dr_base.specs.declared.estate_fault.EstateFault.TheVariants.{NotToml, Key, BadName, Twice, Unknown, DeviceTwice}
use Rattle.dr_base.specs.declared.estate_fault.EstateFault.TheVariants as fault
use Rattle.dr_base.specs.declared.estate_fault.Limit.{Limit}
use Rattle.dr_base.specs.declared.estate_fault.Limit.TheVariants.{Machines, Devices, Datastores, Consistency, Groups, Maps, Plans, MachineDatastores, DatastoreDevices, PlanSteps, PlanAfter, PlanBefore, PlanThen}
use Rattle.dr_inventory.specs.declared.estate.PlanMachineRow.{PlanMachineRow}
use Rattle.dr_inventory.specs.declared.estate.PlanRow.{PlanRow}
use Rattle.dr_inventory.specs.declared.document.Document.{Document}
use Rattle.dr_inventory.specs.declared.estate.Estate.{Estate}
use Rattle.dr_base.specs.declared.stop.Stop.TheVariants as stop
use Rattle.dr_inventory.specs.Part.{ReadError, IsUnlessMemory, Part, found, wrong, ◌>>=◌, is_of_shape, first_or}
use Rattle.dr_inventory.specs.Shapes.{Shape, a_name, a_path, a_text, a_number, numbered, a_form, formed, is_one, a_word, worded, known_or, spelled, below, entry, entries, count, as_list, list_of, as_row, a_row, or_else, required, optional, only, no_name, unnamed, keys_of, shown}
use Rattle.dr_inventory.specs.Tables.{machine, no_machine, datastore, no_datastore, consistency, no_consistency, group, no_group, a_side, side_of}
use Rattle.dr_inventory.specs.Maps.{map_key, map_from, a_kind, kind_of, a_place, map_row, no_map}
use Rattle.dr_inventory.specs.Plans.{plan_machine, no_plan_machine, one_of, callout, step, no_step, plan, no_plan}
use Rattle.dr_inventory.specs.Documents.{document}
use Rattle.dr_inventory.specs.Limits.{limit, machine_limits, datastore_limits, plan_limits, plan_machine_limits, limits}
use Rattle.dr_inventory.specs.Rules.{machine_name, machine_within, machine_datastores, datastore_name, consistency_name, group_name, group_within, group_datastores, plan_name, plan_within, devices, grouped_devices, twice_faults, unknown_faults, device_faults}
use Rattle.dr_inventory.specs.Names.{twice, twice_in, nothing_within, unknown}
use Rattle.dr_inventory.specs.Estates.{form_faults, row_faults, faults, reading}
use Rattle.dr_base.specs.declared.placement.Kind.{Kind}
use Rattle.dr_base.specs.declared.placement.Kind.TheVariants.{Network, Folder, Pool, Test}

abbrev is_other : EstateFault → Bool
is_other NotToml = false
is_other _ = true

abbrev Others : List EstateFault → Type 0
Others fs = list_all is_other fs ≡ true

-- a part of which nothing that is wrong is that it is no TOML
record IsOther {T : Type 0} (p : Part T) : Type 0 where
  others : Others p.faults

-- a kind of value with such parts alone
record AllOther {T : Type 0} (shape : Shape T) : Type 0 where
  each : (path : List ℕ) (d : Data) → IsOther (shape.read path d)

both : (fs gs : List EstateFault) → Others fs → Others gs → Others (fs ++ gs)
both [] gs h k = k
both (f ∷ fs) gs h k = let (here, more) = and_parts (is_other f) (list_all is_other fs) h in rw (here, both fs gs more k) refl

after : {A B : Type 0} (p : Part A) (f : A → Part B) → IsOther p → ((x : A) → IsOther (f x)) → IsOther (p >>= f)
unfolding ◌>>=◌
after p f h k = record { others = both p.faults (f p.value).faults h.others (k p.value).others }

right : {T : Type 0} (x : T) → IsOther (found x)
right x = record { others = refl }

key : {T : Type 0} (path : List ℕ) (x : T) → IsOther (wrong (Key path) x)
key path x = record { others = refl }

chosen : (b : Bool) (s path : List ℕ) → IsOther (cond b (found s) (wrong (BadName path) no_name))
chosen true s path = record { others = refl }
chosen false s path = record { others = refl }

spelled_other : (is_so : List ℕ → Bool) (path : List ℕ) (o : Option (List ℕ)) → IsOther (spelled is_so path o)
spelled_other is_so path None = key path no_name
spelled_other is_so path (Some s) = chosen (is_so s) s path

name_other : AllOther a_name
name_other = record { each = λ path d. spelled_other _ path (as_str d) }

path_other : AllOther a_path
path_other = record { each = λ path d. spelled_other _ path (as_str d) }

text_other : AllOther a_text
text_other = record { each = λ path d. spelled_other _ path (as_str d) }

numbered_other : (path : List ℕ) (o : Option ℤ) → IsOther (numbered path o)
numbered_other path None = key path (pos 0)
numbered_other path (Some z) = right z

number_other : AllOther a_number
number_other = record { each = λ path d. numbered_other path (as_integer d) }

form_chosen : (b : Bool) (path : List ℕ) → IsOther (cond b (found (tt {0})) (wrong (Key path) (tt {0})))
form_chosen true path = record { others = refl }
form_chosen false path = record { others = refl }

formed_other : (path : List ℕ) (o : Option ℤ) → IsOther (formed path o)
formed_other path None = record { others = refl }
formed_other path (Some z) = form_chosen (is_one z) path

form_other : AllOther a_form
form_other = record { each = λ path d. formed_other path (as_integer d) }

known_other : {T : Type 0} (path : List ℕ) (blank : T) (o : Option T) → IsOther (known_or (wrong (Key path) blank) o)
known_other path blank None = key path blank
known_other path blank (Some x) = right x

worded_other : {T : Type 0} (word : List ℕ → Option T) (blank : T) (path : List ℕ) (o : Option (List ℕ)) → IsOther (worded word blank path o)
worded_other word blank path None = key path blank
worded_other word blank path (Some s) = known_other path blank (word s)

word_other : {T : Type 0} (word : List ℕ → Option T) (blank : T) → AllOther (a_word word blank)
word_other word blank = record { each = λ path d. worded_other word blank path (as_str d) }

place_other : (kind : Kind) → AllOther (a_place kind)
place_other Network = name_other
place_other Folder = path_other
place_other Pool = name_other
place_other Test = name_other

entries_other : {T : Type 0} (shape : Shape T) → AllOther shape → (path : List ℕ) (i : ℕ) (ds : Items) → IsOther (entries shape path i ds)
unfolding entries
entries_other shape h path i no_items = right []
entries_other shape h path i (item d ds) =
    after (shape.read (entry path i) d) _ (h.each (entry path i) d) (λ x. after (entries shape path (i + 1) ds) _ (entries_other shape h path (i + 1) ds) (λ xs. right (x ∷ xs)))

long_enough : {T : Type 0} (b : Bool) (path : List ℕ) (p : Part (List T)) → IsOther p → IsOther (cond b (wrong (Key path) []) p)
long_enough true path p h = record { others = refl }
long_enough false path p h = h

listed_other : {T : Type 0} (shape : Shape T) → AllOther shape → (least : ℕ) (path : List ℕ) (o : Option Items) → IsOther (as_list shape least path o)
listed_other shape h least path None = key path []
listed_other shape h least path (Some ds) = long_enough (nat_lt (count ds) least) path (entries shape path 0 ds) (entries_other shape h path 0 ds)

list_other : {T : Type 0} (least : ℕ) (shape : Shape T) → AllOther shape → AllOther (list_of least shape)
list_other least shape h = record { each = λ path d. listed_other shape h least path (as_array d) }

read_other : {T : Type 0} (read : List ℕ → Members → Part T) (blank : T) → ((path : List ℕ) (t : Members) → IsOther (read path t)) → (path : List ℕ) (o : Option Members) → IsOther (as_row read blank path o)
read_other read blank h path None = key path blank
read_other read blank h path (Some t) = h path t

row_other : {T : Type 0} (read : List ℕ → Members → Part T) (blank : T) → ((path : List ℕ) (t : Members) → IsOther (read path t)) → AllOther (a_row read blank)
row_other read blank h = record { each = λ path d. read_other read blank h path (as_table d) }

held_other : {T : Type 0} (shape : Shape T) → AllOther shape → (missing : Part T) → IsOther missing → (path : List ℕ) (o : Option Data) → IsOther (or_else missing (shape.read path) o)
held_other shape h missing m path None = m
held_other shape h missing m path (Some d) = h.each path d

must : {T : Type 0} (shape : Shape T) → AllOther shape → (path : List ℕ) (t : Members) (k : List ℕ) → IsOther (required shape path t k)
unfolding required
must shape h path t k = held_other shape h _ (key (below path k) shape.blank) (below path k) (get_member k t)

may : {T : Type 0} (shape : Shape T) (default : T) → AllOther shape → (path : List ℕ) (t : Members) (k : List ℕ) → IsOther (optional shape default path t k)
unfolding optional
may shape default h path t k = held_other shape h _ (right default) (below path k) (get_member k t)

all_map : {X : Type 0} (f : X → EstateFault) → ((x : X) → is_other (f x) ≡ true) → (xs : List X) → Others (map f xs)
all_map f h [] = refl
all_map f h (x ∷ xs) = rw (h x, all_map f h xs) refl

others : (names : List (List ℕ)) (path : List ℕ) (t : Members) → IsOther (only names path t)
unfolding only
others names path t = record { others = all_map (λ k. Key (below path (shown k))) (λ k. refl) (unnamed names (keys_of t)) }

machine_other : (path : List ℕ) (t : Members) → IsOther (machine path t)
unfolding machine
machine_other path t =
    after _ _ (must a_name name_other path t (codes "name")) (λ name.
    after _ _ (must a_name name_other path t (codes "network")) (λ network.
    after _ _ (must a_path path_other path t (codes "folder")) (λ folder.
    after _ _ (must a_name name_other path t (codes "pool")) (λ pool.
    after _ _ (must (list_of 1 a_name) (list_other 1 a_name name_other) path t (codes "datastores")) (λ datastores.
    after _ _ (others _ path t) (λ u. right _))))))

datastore_other : (path : List ℕ) (t : Members) → IsOther (datastore path t)
unfolding datastore
datastore_other path t =
    after _ _ (must a_name name_other path t (codes "name")) (λ name.
    after _ _ (must (list_of 1 a_name) (list_other 1 a_name name_other) path t (codes "devices")) (λ devices.
    after _ _ (others _ path t) (λ u. right _)))

consistency_other : (path : List ℕ) (t : Members) → IsOther (consistency path t)
unfolding consistency
consistency_other path t =
    after _ _ (must a_name name_other path t (codes "name")) (λ name.
    after _ _ (must (list_of 1 a_name) (list_other 1 a_name name_other) path t (codes "devices")) (λ devices.
    after _ _ (others _ path t) (λ u. right _)))

group_other : (path : List ℕ) (t : Members) → IsOther (group path t)
unfolding group
group_other path t =
    after _ _ (must a_name name_other path t (codes "name")) (λ name.
    after _ _ (must a_side (word_other side_of _) path t (codes "protects")) (λ protects.
    after _ _ (must (list_of 1 a_name) (list_other 1 a_name name_other) path t (codes "datastores")) (λ datastores.
    after _ _ (others _ path t) (λ u. right _))))

map_other : (path : List ℕ) (t : Members) → IsOther (map_row path t)
unfolding map_row
map_other path t =
    after _ _ (must a_kind (word_other kind_of _) path t (codes "kind")) (λ kind.
    after _ _ (must a_side (word_other side_of _) path t (codes "side")) (λ side.
    after _ _ (must (a_place kind) (place_other kind) path t (codes "from")) (λ from.
    after _ _ (must (a_place kind) (place_other kind) path t (codes "to")) (λ to.
    after _ _ (others _ path t) (λ u. right _)))))

names_other : AllOther (list_of 0 a_name)
names_other = list_other 0 a_name name_other

plan_machine_other : (path : List ℕ) (t : Members) → IsOther (plan_machine path t)
unfolding plan_machine
plan_machine_other path t =
    after _ _ (must a_name name_other path t (codes "name")) (λ name.
    after _ _ (may a_number (pos 3) number_other path t (codes "priority")) (λ priority.
    after _ _ (may (list_of 0 a_name) [] names_other path t (codes "after")) (λ dependencies.
    after _ _ (may (list_of 0 a_name) [] names_other path t (codes "before")) (λ before.
    after _ _ (may (list_of 0 a_name) [] names_other path t (codes "then")) (λ then_list.
    after _ _ (others _ path t) (λ u. right _))))))

one_other : (path : List ℕ) (command prompt : Option Data) → IsOther (one_of path command prompt)
one_other path None None = record { others = refl }
one_other path (Some c) None = after _ _ (name_other.each (below path (codes "command")) c) (λ name. right _)
one_other path None (Some p) = after _ _ (text_other.each (below path (codes "prompt")) p) (λ text. right _)
one_other path (Some c) (Some p) = record { others = refl }

callout_other : (path : List ℕ) (t : Members) → IsOther (callout path t)
unfolding callout
callout_other path t = one_other path (get_member (codes "command") t) (get_member (codes "prompt") t)

step_other : (path : List ℕ) (t : Members) → IsOther (step path t)
unfolding step
step_other path t =
    after _ _ (must a_number number_other path t (codes "before")) (λ before.
    after _ _ (callout_other path t) (λ what.
    after _ _ (others _ path t) (λ u. right _)))

rows_other : {T : Type 0} (read : List ℕ → Members → Part T) (blank : T) → ((path : List ℕ) (t : Members) → IsOther (read path t)) → AllOther (list_of 0 (a_row read blank))
rows_other read blank h = list_other 0 (a_row read blank) (row_other read blank h)

plan_other : (path : List ℕ) (t : Members) → IsOther (plan path t)
unfolding plan
plan_other path t =
    after _ _ (must a_name name_other path t (codes "name")) (λ name.
    after _ _ (must (list_of 1 a_name) (list_other 1 a_name name_other) path t (codes "groups")) (λ groups.
    after _ _ (may _ [] (rows_other plan_machine no_plan_machine plan_machine_other) path t (codes "machine")) (λ machine.
    after _ _ (may _ [] (rows_other step no_step step_other) path t (codes "step")) (λ step.
    after _ _ (others _ path t) (λ u. right _)))))

document_other : (t : Members) → IsOther (document t)
unfolding document
document_other t =
    after _ _ (must a_form form_other [] t (codes "form")) (λ form.
    after _ _ (may _ [] (rows_other machine no_machine machine_other) [] t (codes "machine")) (λ machines.
    after _ _ (may _ [] (rows_other datastore no_datastore datastore_other) [] t (codes "datastore")) (λ datastores.
    after _ _ (may _ [] (rows_other consistency no_consistency consistency_other) [] t (codes "consistency")) (λ consistency.
    after _ _ (may _ [] (rows_other group no_group group_other) [] t (codes "group")) (λ groups.
    after _ _ (may _ [] (rows_other map_row no_map map_other) [] t (codes "map")) (λ maps.
    after _ _ (may _ [] (rows_other plan no_plan plan_other) [] t (codes "plan")) (λ plans.
    after _ _ (others _ [] t) (λ u. right _))))))))

pick : (b : Bool) (f : EstateFault) (fs : List EstateFault) → is_other f ≡ true → Others fs → Others (cond b (f ∷ fs) fs)
pick true f fs h k = rw (h, k) refl
pick false f fs h k = k

kept : (p : EstateFault → Bool) (fs : List EstateFault) → Others fs → Others (filter p fs)
kept p [] h = refl
kept p (f ∷ fs) h = let (here, more) = and_parts (is_other f) (list_all is_other fs) h in pick (p f) f (filter p fs) here (kept p fs more)

above : (kind : Limit) (b : Bool) (n : ℕ) → Others (cond b (fault.Limit kind n ∷ []) [])
above kind true n = refl
above kind false n = refl

limit_other : (kind : Limit) (most n : ℕ) → Others (limit kind most n)
limit_other kind most n = above kind (nat_lt most n) n

all_rows : {X : Type 0} (f : X → List EstateFault) → ((x : X) → Others (f x)) → (xs : List X) → Others (flat_map f xs)
all_rows f h [] = refl
all_rows f h (x ∷ xs) = both (f x) (flat_map f xs) (h x) (all_rows f h xs)

-- a list with such faults alone
record AllOthers (fs : List EstateFault) : Type 0 where
  others : Others fs

joined : {fs gs : List EstateFault} → AllOthers fs → AllOthers gs → AllOthers (fs ++ gs)
joined {fs} {gs} h k = record { others = both fs gs h.others k.others }

limited : (kind : Limit) (most n : ℕ) → AllOthers (limit kind most n)
limited kind most n = record { others = limit_other kind most n }

of_rows : {X : Type 0} (f : X → List EstateFault) → ((x : X) → AllOthers (f x)) → (xs : List X) → AllOthers (flat_map f xs)
of_rows f h xs = record { others = all_rows f (λ x. (h x).others) xs }

plan_machine_limited : (m : PlanMachineRow) → AllOthers (plan_machine_limits m)
plan_machine_limited m = joined (limited PlanAfter 32 (length m.after)) (joined (limited PlanBefore 2 (length m.before)) (limited PlanThen 2 (length m.then)))

plan_limited : (p : PlanRow) → AllOthers (plan_limits p)
plan_limited p = joined (limited PlanSteps 64 (length p.step)) (of_rows plan_machine_limits plan_machine_limited p.machine)

all_limited : (doc : Document) → AllOthers (limits doc)
all_limited doc =
    joined (limited Machines 2000 (length doc.machines)) (joined (limited Devices 1024 (length (devices doc))) (joined (limited Datastores 1024 (length doc.datastores))
    (joined (limited Consistency 1024 (length doc.consistency)) (joined (limited Groups 256 (length doc.groups)) (joined (limited Maps 4096 (length doc.maps)) (joined (limited Plans 64 (length doc.plans))
    (joined (of_rows machine_limits (λ m. limited MachineDatastores 16 (length m.datastores)) doc.machines) (joined (of_rows datastore_limits (λ d. limited DatastoreDevices 16 (length d.devices)) doc.datastores)
    (of_rows plan_limits plan_limited doc.plans)))))))))

of_twice : (ns : List (List ℕ)) → AllOthers (map (λ n. Twice n) ns)
of_twice ns = record { others = all_map (λ n. Twice n) (λ n. refl) ns }

of_unknown : (ns : List (List ℕ)) → AllOthers (map (λ n. Unknown n) ns)
of_unknown ns = record { others = all_map (λ n. Unknown n) (λ n. refl) ns }

of_devices : (ns : List (List ℕ)) → AllOthers (map (λ n. DeviceTwice n) ns)
of_devices ns = record { others = all_map (λ n. DeviceTwice n) (λ n. refl) ns }

all_twice : (doc : Document) → AllOthers (twice_faults doc)
all_twice doc =
    joined (of_twice (twice machine_name machine_name machine_within [] doc.machines))
    (joined (of_twice (twice datastore_name datastore_name nothing_within [] doc.datastores))
    (joined (of_twice (twice consistency_name consistency_name nothing_within [] doc.consistency))
    (joined (of_twice (twice group_name group_name group_within [] doc.groups))
    (joined (of_twice (twice map_key map_from nothing_within [] doc.maps)) (of_twice (twice plan_name plan_name plan_within [] doc.plans))))))

all_unknown : (doc : Document) → AllOthers (unknown_faults doc)
all_unknown doc =
    joined (of_unknown (unknown datastore_name doc.datastores (flat_map machine_datastores doc.machines)))
    (joined (of_unknown (unknown (λ n. n) (devices doc) (grouped_devices doc))) (of_unknown (unknown datastore_name doc.datastores (flat_map group_datastores doc.groups))))

all_devices : (doc : Document) → AllOthers (device_faults doc)
all_devices doc = joined (of_devices (twice_in (devices doc))) (of_devices (twice_in (grouped_devices doc)))

all_rows_other : (doc : Document) → AllOthers (row_faults doc)
all_rows_other doc = joined (all_twice doc) (joined (all_unknown doc) (joined (all_devices doc) (all_limited doc)))

of_form : (p : EstateFault → Bool) (t : Members) → AllOthers (filter p (document t).faults)
of_form p t = record { others = kept p (document t).faults (document_other t).others }

all_form : (t : Members) → AllOthers (form_faults t)
all_form t = joined (of_form is_of_shape t) (of_form (λ f. not (is_of_shape f)) t)

all_other : (t : Members) → AllOthers (faults t)
all_other t = joined (all_form t) (all_rows_other (document t).value)

first_other : {T : Type 0} (fs : List EstateFault) (x : T) → Others fs → first_or fs x ≡ Err NotToml → ⊥
first_other [] x h e = cc
first_other (f ∷ fs) x h e =
    let (here, more) = and_parts (is_other f) (list_all is_other fs) h in
    let same : f ≡ NotToml = cc in
    let no : false ≡ true = rw same at here in cc

-- so a reading of a table never tells it
pub never_told : (t : Members) (r : Result Estate ReadError) → IsUnlessMemory r (reading t) → r ≡ Err (stop.Fault NotToml) → ⊥
never_told t (Ok e) h told = cc
never_told t (Err stop.Memory) h told = cc
never_told t (Err (stop.Fault f)) h told =
    let same : f ≡ NotToml = cc in
    let e : reading t ≡ Err NotToml = rw same at h in first_other (faults t) _ (all_other t).others e
