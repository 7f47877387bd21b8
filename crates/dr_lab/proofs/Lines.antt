-- Lines of kept commands, taken off one after the other.
use Rattle.std.proofs.Common.{ℕ, ◌≡◌, ◌∙◌, ◌<◌, List, [], ◌∷◌, ◌++◌, length, take, refl, sym, ap, append_assoc, append-nil, arith, Option, Some, None}
use Rattle.std.proofs.Math.Seq.{take-append_seam}
use Rattle.std.specs.Prelude.{◌==◌, Bool, true, false, if◌then◌else◌}
use Rattle.std.specs.Io.KnownBytes.{Consumes}
use Rattle.std.proofs.lemmas.List.{length-append}
use Rattle.std.proofs.lemmas.List.Elements.{All-append, All-nil, All-cons}
use Rattle.dr_outside.specs.declared.machine.Kept.{Kept}
use Rattle.dr_outside.specs.Commands.{code_of}
use Rattle.dr_lab.specs.Fields.{Taken}
use Rattle.dr_lab.specs.KeptText.{kept_text, IsKept, kept_lines, BeginsWith, code_with, KeepsCode}

lines_append : (a b : List Kept) → kept_lines (a ++ b) ≡ kept_lines a ++ kept_lines b
lines_append [] b = refl
lines_append (x ∷ a) b = ap (λ z. kept_text x ++ z) (lines_append a b) ∙ sym (append_assoc (kept_text x) (kept_lines a) (kept_lines b))

-- no line yet
pub at_front : (bytes : List ℕ) → BeginsWith bytes [] bytes
at_front bytes = record { are = All-nil IsKept; whole = refl }

-- lines behind lines
pub later : {bytes mid rest : List ℕ} {a b : List Kept} → BeginsWith bytes a mid → BeginsWith mid b rest → BeginsWith bytes (a ++ b) rest
later {bytes} {mid} {rest} {a} {b} first second = record {
  are = All-append IsKept a b first.are second.are;
  whole = first.whole ∙ ap (λ (z : List ℕ). kept_lines a ++ z) second.whole ∙ sym (append_assoc (kept_lines a) (kept_lines b) rest) ∙ ap (λ (z : List ℕ). z ++ rest) (sym (lines_append a b));
}

-- bytes behind what is left
pub behind : {bytes rest : List ℕ} {a : List Kept} → (more : List ℕ) → BeginsWith bytes a rest → BeginsWith (bytes ++ more) a (rest ++ more)
behind {bytes} {rest} {a} more first = record {
  are = first.are;
  whole = ap (λ (z : List ℕ). z ++ more) first.whole ∙ append_assoc (kept_lines a) rest more;
}

-- one line
pub one_line : {bytes rest : List ℕ} {kept : Kept} → Taken IsKept kept_text bytes kept rest → BeginsWith bytes (kept ∷ []) rest
one_line {bytes} {rest} {kept} taken = record {
  are = All-cons IsKept kept [] taken.is (All-nil IsKept);
  whole = taken.whole ∙ ap (λ (z : List ℕ). z ++ rest) (sym (append-nil (kept_text kept)));
}

by_test : (t : Bool) (x : Kept) (a b : List Kept) (token : ℕ) → code_of (a ++ b) token ≡ code_with (code_of a token) b token → (if t then Some x.code else code_of (a ++ b) token) ≡ code_with (if t then Some x.code else code_of a token) b token
by_test true x a b token rest = refl
by_test false x a b token rest = rest

-- the code of one list and then another one
of_append : (a b : List Kept) (token : ℕ) → code_of (a ++ b) token ≡ code_with (code_of a token) b token
of_append [] b token = refl
of_append (x ∷ a) b token = by_test (x.token == token) x a b token (of_append a b token)

pub code_later : (code : Option ℕ) (a b : List Kept) (token : ℕ) → code_with code (a ++ b) token ≡ code_with (code_with code a token) b token
code_later None a b token = of_append a b token
code_later (Some code) a b token = refl

-- what was read of a reader, one piece after the other
pub consumes_more : (a b c : Option (List ℕ)) (x y : List ℕ) → Consumes a b x → Consumes b c y → Consumes a c (x ++ y)
consumes_more None b c x y first second = tt
consumes_more (Some p) None c x y first second = absurd first
consumes_more (Some p) (Some q) None x y first second = absurd second
consumes_more (Some p) (Some q) (Some r) x y first second = first ∙ ap (λ (z : List ℕ). x ++ z) second ∙ sym (append_assoc x y r)

-- nothing was read yet
pub consumes_none : (a : Option (List ℕ)) → Consumes a a []
consumes_none None = tt
consumes_none (Some p) = refl

front : (before after : Option (List ℕ)) (read : List ℕ) → Consumes before after read → (bytes : List ℕ) → before ≡ Some bytes → take (length read) bytes ≡ read
front None after read consumed bytes is = absurd cc
front (Some p) None read consumed bytes is = absurd consumed
front (Some p) (Some q) read consumed bytes is = let same : bytes ≡ read ++ q = cc in rw same (take-append_seam read q)

-- all was read
pub all_read : (before after : Option (List ℕ)) (read : List ℕ) (commands : List Kept) (token : ℕ) (code : Option ℕ) → Consumes before after read → BeginsWith read commands [] → code ≡ code_of commands token → (bytes : List ℕ) → before ≡ Some bytes → KeepsCode (take (length read) bytes) token code
all_read before after read commands token code consumed begins known bytes is = (commands, rw (front before after read consumed bytes is) begins, known)

-- no command keeps no code
pub code_none : (code : Option ℕ) (token : ℕ) → code ≡ code_with code [] token
code_none None token = refl
code_none (Some code) token = refl

some_text : (kept : Kept) → 0 < length (kept_text kept)
unfolding kept_text
some_text kept = omega arith

-- a line that was taken was some bytes long
pub shorter : {bytes rest : List ℕ} {kept : Kept} → Taken IsKept kept_text bytes kept rest → length rest < length bytes
shorter {bytes} {rest} {kept} taken = omega (arith, some_text kept, ap length taken.whole, length-append (kept_text kept) rest)
