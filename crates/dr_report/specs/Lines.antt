-- Lines of words, and what is left where one is appended.
use Rattle.std.specs.Prelude.{ℕ, ◌≡◌, ◌+◌, ◌<◌, ◌≤◌, ◌^◌, List, [], ◌∷◌, ◌++◌, length, map, flat_map, take, codes, decimal, Result, OnOk, OnErr, vec_len, vec_capacity, FitsSigned}
use Rattle.std.specs.Int.{w64}
use Rattle.std.specs.Fmt.{signed_decimal}
use Rattle.std.specs.Global.{Vec}
use Rattle.dr_report.specs.declared.line.Word.{Word}
use Rattle.dr_report.specs.declared.line.Word.TheVariants.{Text, Number, Signed}

-- words, with a space before each
abbrev pub spaced : List (List ℕ) → List ℕ
spaced words = flat_map (λ word. codes " " ++ word) words

-- a line: how it begins, the words behind that, and a line feed
abbrev pub told : List ℕ → List (List ℕ) → List ℕ
told front words = front ++ (spaced words ++ codes "\n")

-- how a word is spelled: a text as it is, a number in decimal
abbrev pub spelled : Word → List ℕ
spelled (Text bytes) = bytes.now
spelled (Number number) = decimal number
spelled (Signed number) = signed_decimal number

-- a word of at most 64 bytes
abbrev pub IsShortWord : Word → Type 0
IsShortWord (Text bytes) = length bytes.now ≤ 64
IsShortWord (Number number) = number < 2 ^ 64
IsShortWord (Signed number) = FitsSigned w64 number

-- all these words are such
abbrev pub AreShort : List Word → Type 0
AreShort [] = Unit {0}
AreShort (word ∷ words) = IsShortWord word × AreShort words

-- a text was put behind what stood there, or for want of room at most a part of it was
pub record Adds {E : Type 0} (old new : Vec ℕ) (text : List ℕ) (result : Result (Unit {0}) E) : Type 0 where
  pub ok : OnOk result (new.items ≡ old.items ++ text)
  pub err : OnErr result (take (vec_len old) new.items ≡ old.items)
  pub full : OnErr result (vec_capacity old < vec_len old + length text)
  pub capacity : vec_capacity old ≤ vec_capacity new

-- a text was put behind what stood there, or for want of room nothing was
pub record Appends {E : Type 0} (old new : Vec ℕ) (text : List ℕ) (result : Result (Unit {0}) E) : Type 0 where
  pub ok : OnOk result (new.items ≡ old.items ++ text)
  pub err : OnErr result (new.items ≡ old.items)
  pub full : OnErr result (vec_capacity old < vec_len old + length text)
  pub capacity : vec_capacity old ≤ vec_capacity new
