-- What a value may be: strings that are spelled in some way, numbers, lists, tables, and what a key of a table holds.
use Rattle.std.specs.Prelude.{ℕ, ◌+◌, ◌==◌, ◌&&◌, nat_le, nat_lt, not, Bool, false, List, [], ◌∷◌, ◌++◌, ℤ, pos, negsuc, take, map, codes, decimal, bytes_eq, Option, Some, None, if◌then◌else◌}
use Rattle.std.specs.List.{filter, list_any}
use Rattle.toml.specs.Data.{Data, Items, no_items, item, Members, no_members, member, get_member, as_integer, as_str, as_array, as_table}
use Rattle.dr_base.specs.Names.{is_name}
use Rattle.dr_base.specs.Paths.{is_path}
use Rattle.dr_base.specs.Texts.{is_text}
use Rattle.dr_base.specs.declared.estate_fault.EstateFault.TheVariants.{Key, BadName}
use Rattle.dr_inventory.specs.Part.{Part, found, wrong, ◌>>=◌}

-- A kind of value: what one stands for at a path, and what stands in for one that is missing.
pub record Shape (T : Type 0) : Type 0 where
  pub read : List ℕ → Data → Part T
  pub blank : T

-- the path of a key below a path: joined by '.', at the top the key alone
unfoldable pub below : List ℕ → List ℕ → List ℕ
below [] key = key
below (b ∷ path) key = (b ∷ path) ++ 46 ∷ key

-- the path of an entry of a list: its number in brackets, from 0
unfoldable pub entry : List ℕ → ℕ → List ℕ
entry path i = path ++ 91 ∷ (decimal i ++ 93 ∷ [])

-- what stands in for a string that isn't spelled as it must be
abbrev pub no_name : List ℕ
no_name = codes "x"

-- a string that is spelled so; of another type it is a wrong key, of another spelling a bad name
abbrev pub spelled : (List ℕ → Bool) → List ℕ → Option (List ℕ) → Part (List ℕ)
spelled is_so path None = wrong (Key path) no_name
spelled is_so path (Some s) = if is_so s then found s else wrong (BadName path) no_name

-- a name
abbrev pub a_name : Shape (List ℕ)
a_name = record { read = λ path d. spelled is_name path (as_str d); blank = no_name }

-- the path of a folder
abbrev pub a_path : Shape (List ℕ)
a_path = record { read = λ path d. spelled is_path path (as_str d); blank = no_name }

-- the text of a prompt
abbrev pub a_text : Shape (List ℕ)
a_text = record { read = λ path d. spelled is_text path (as_str d); blank = no_name }

-- what an integer stands for at a path, or a value of another type
abbrev pub numbered : List ℕ → Option ℤ → Part ℤ
numbered path None = wrong (Key path) (pos 0)
numbered path (Some z) = found z

-- a whole number
abbrev pub a_number : Shape ℤ
a_number = record { read = λ path d. numbered path (as_integer d); blank = pos 0 }

-- whether an integer is 1
abbrev pub is_one : ℤ → Bool
is_one (pos n) = n == 1
is_one (negsuc n) = false

-- nothing wrong if this integer is 1
abbrev pub formed : List ℕ → Option ℤ → Part (Unit {0})
formed path None = wrong (Key path) tt
formed path (Some z) = if is_one z then found tt else wrong (Key path) tt

-- the number of the form, which is 1
abbrev pub a_form : Shape (Unit {0})
a_form = record { read = λ path d. formed path (as_integer d); blank = tt }

-- what a word stands for, or this part if it is none of the words
abbrev pub known_or : {T : Type 0} → Part T → Option T → Part T
known_or bad None = bad
known_or bad (Some x) = found x

-- what a string stands for as one of some words
abbrev pub worded : {T : Type 0} → (List ℕ → Option T) → T → List ℕ → Option (List ℕ) → Part T
worded word blank path None = wrong (Key path) blank
worded word blank path (Some s) = known_or (wrong (Key path) blank) (word s)

-- one of some words; any other string is a wrong key
abbrev pub a_word : {T : Type 0} → (List ℕ → Option T) → T → Shape T
a_word word blank = record { read = λ path d. worded word blank path (as_str d); blank = blank }

-- the entries of a list, from the one with this number on
unfoldable pub entries : {T : Type 0} → Shape T → List ℕ → ℕ → Items → Part (List T)
entries shape path i no_items = found []
entries shape path i (item d ds) = do
  x ← shape.read (entry path i) d
  xs ← entries shape path (i + 1) ds
  found (x ∷ xs)

-- how many items there are
abbrev pub count : Items → ℕ
count no_items = 0
count (item d ds) = 1 + count ds

-- what the items of a list stand for, if there are at least so many
abbrev pub as_list : {T : Type 0} → Shape T → ℕ → List ℕ → Option Items → Part (List T)
as_list shape least path None = wrong (Key path) []
as_list shape least path (Some ds) = if nat_lt (count ds) least then wrong (Key path) [] else entries shape path 0 ds

-- a list of so many entries or more
abbrev pub list_of : {T : Type 0} → ℕ → Shape T → Shape (List T)
list_of least shape = record { read = λ path d. as_list shape least path (as_array d); blank = [] }

-- what the members of a table stand for
abbrev pub as_row : {T : Type 0} → (List ℕ → Members → Part T) → T → List ℕ → Option Members → Part T
as_row read blank path None = wrong (Key path) blank
as_row read blank path (Some ms) = read path ms

-- a table, of whose members a row is read
abbrev pub a_row : {T : Type 0} → (List ℕ → Members → Part T) → T → Shape T
a_row read blank = record { read = λ path d. as_row read blank path (as_table d); blank = blank }

-- what a value stands for, or this part where there is none
abbrev pub or_else : {T : Type 0} → Part T → (Data → Part T) → Option Data → Part T
or_else missing read None = missing
or_else missing read (Some d) = read d

-- the value at a key, which has to be there
unfoldable pub required : {T : Type 0} → Shape T → List ℕ → Members → List ℕ → Part T
required shape path ms key = or_else (wrong (Key (below path key)) shape.blank) (shape.read (below path key)) (get_member key ms)

-- the value at a key, or this one where the key isn't there
unfoldable pub optional : {T : Type 0} → Shape T → T → List ℕ → Members → List ℕ → Part T
optional shape default path ms key = or_else (found default) (shape.read (below path key)) (get_member key ms)

-- the keys of a table, which ascend by their bytes
abbrev pub keys_of : Members → List (List ℕ)
keys_of no_members = []
keys_of (member k d ms) = k ∷ keys_of ms

-- whether a key is one of these names
abbrev pub is_named : List (List ℕ) → List ℕ → Bool
is_named names key = list_any (λ n. bytes_eq n key) names

-- the keys that are not among the names
abbrev pub unnamed : List (List ℕ) → List (List ℕ) → List (List ℕ)
unnamed names keys = filter (λ key. not (is_named names key)) keys

-- a byte that prints, or '?'
abbrev pub shown_byte : ℕ → ℕ
shown_byte b = if nat_le 33 b && nat_le b 126 then b else 63

-- how a key that isn't known is shown: its first 64 bytes, with '?' for each that doesn't print
abbrev pub shown : List ℕ → List ℕ
shown key = map shown_byte (take 64 key)

-- each key that isn't one of these is wrong
unfoldable pub only : List (List ℕ) → List ℕ → Members → Part (Unit {0})
only names path ms = record { faults = map (λ key. Key (below path (shown key))) (unnamed names (keys_of ms)); value = tt }
