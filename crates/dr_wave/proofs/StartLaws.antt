-- A start's step, exit by exit. Each speaks of the machine when it was found (s0), registered (s1), with its commands before power-on (s2), turned on (s3) and with those after it (s4).
use Rattle.std.specs.Prelude.{Option}
use Rattle.std.proofs.Common.{◌≡◌, ℕ, ◌+◌, ◌∙◌, ◌⊎◌, inl, inr, true, false, List, [], ◌∷◌, ◌++◌, length, take, get_or, refl, sym, ap, subst, arith}
use Rattle.dr_base.specs.Sides.{other}
use Rattle.dr_outside.specs.declared.machine.Placed.{Placed}
use Rattle.dr_outside.specs.declared.machine.Post.{Post}
use Rattle.dr_outside.specs.declared.machine.Post.TheVariants.{Placeholder, Off, On, Ready}
use Rattle.dr_outside.specs.BySide.{at}
use Rattle.dr_outside.specs.Commands.{HasTokensOnce}
use Rattle.dr_outside.specs.Machines.{PortState, SameMachine, ChangesPost}
use Rattle.dr_meaning.specs.declared.stage.StageKind.{StageKind}
use Rattle.dr_meaning.specs.StartUp.{is_started}
use Rattle.dr_meaning.specs.InOrder.{is_ready}
use Rattle.dr_meaning.specs.Outcomes.{PostOutcome, IsAsWanted}
use Rattle.dr_wave.specs.declared.slot.StartWant.{StartWant}
use Rattle.dr_wave.specs.Commands.{commands_from, RanFirst, RanAll, CommandsRun, AreKept, AreCodes}
use Rattle.dr_wave.specs.Steps.{placed_of, before_power, PostStep, StartLeaves, StartMade}
use Rattle.dr_wave.specs.Parts.{registered, PoweredOn}
use Rattle.dr_wave.proofs.KeptLaws.{none_ran, all_is_first, first_from, front_from, kept_later, keeps_codes, codes-append}

-- The commands by place ----------------------------------------------------------------------------------

pub two_of : (xs : List (Option (List ℕ))) (d e : Option (List ℕ)) → length xs ≡ 4 → get_or xs 0 d ∷ get_or xs 1 e ∷ [] ≡ take 2 xs
two_of [] d e l = absurd (omega (arith, l))
two_of (a ∷ []) d e l = absurd (omega (arith, l))
two_of (a ∷ b ∷ rest) d e l = refl

pub four_of : (xs : List (Option (List ℕ))) (d e : Option (List ℕ)) → length xs ≡ 4 → take 2 xs ++ (get_or xs 2 d ∷ get_or xs 3 e ∷ []) ≡ xs
four_of [] d e l = absurd (omega (arith, l))
four_of (a ∷ []) d e l = absurd (omega (arith, l))
four_of (a ∷ b ∷ []) d e l = absurd (omega (arith, l))
four_of (a ∷ b ∷ x ∷ []) d e l = absurd (omega (arith, l))
four_of (a ∷ b ∷ x ∷ y ∷ []) d e l = refl
four_of (a ∷ b ∷ x ∷ y ∷ z ∷ rest) d e l = absurd (omega (arith, l))

-- Posts ----------------------------------------------------------------------------------------------------

-- registered, or as it was
registered_leaves : (w : Placed) (x y : Post) → (y ≡ x) ⊎ (y ≡ registered w x) → PostStep StageKind.Start w x y
registered_leaves w x y (inl same) = inl same
registered_leaves w Placeholder y (inr is) = inr (inr (inr (inl is)))
registered_leaves w (Off p) y (inr is) = inl is
registered_leaves w (On p) y (inr is) = inl is
registered_leaves w (Ready p) y (inr is) = inl is

-- so it isn't started anew
not_started : (w : Placed) (x y : Post) → (y ≡ x) ⊎ (y ≡ registered w x) → is_started x ≡ false → is_started y ≡ true → ⊥
not_started w x y (inl same) isnt is = let wrong : false ≡ true = sym isnt ∙ ap is_started (sym same) ∙ is in cc wrong
not_started w Placeholder y (inr e) isnt is = let wrong : false ≡ true = ap is_started (sym e) ∙ is in cc wrong
not_started w (Off p) y (inr e) isnt is = let wrong : false ≡ true = ap is_started (sym e) ∙ is in cc wrong
not_started w (On p) y (inr e) isnt is = cc isnt
not_started w (Ready p) y (inr e) isnt is = cc isnt

registered_is_there : (w : Placed) (x : Post) → registered w x ≡ Placeholder → ⊥
registered_is_there w Placeholder e = cc e
registered_is_there w (Off p) e = cc e
registered_is_there w (On p) e = cc e
registered_is_there w (Ready p) e = cc e

-- what turning it on leaves
abbrev IsOn : Placed → Post → Type 0
IsOn w y = (y ≡ Off w) ⊎ ((y ≡ On w) ⊎ (y ≡ Ready w))

on_leaves : (w : Placed) (x y : Post) → is_ready x ≡ false → IsOn w y → PostOutcome StageKind.Start w x y
on_leaves w Placeholder y isnt (inl e) = inr (inr (inl e))
on_leaves w Placeholder y isnt (inr (inl e)) = inr (inr (inr e))
on_leaves w Placeholder y isnt (inr (inr e)) = inl e
on_leaves w (Off p) y isnt (inl e) = inr (inl e)
on_leaves w (Off p) y isnt (inr (inl e)) = inr (inr e)
on_leaves w (Off p) y isnt (inr (inr e)) = inl e
on_leaves w (On p) y isnt (inl e) = inr (inl e)
on_leaves w (On p) y isnt (inr (inl e)) = inr (inr e)
on_leaves w (On p) y isnt (inr (inr e)) = inl e
on_leaves w (Ready p) y isnt on = absurd (cc isnt)

on_is_there : (w : Placed) (y : Post) → IsOn w y → y ≡ Placeholder → ⊥
on_is_there w y (inl e) is = let wrong : Off w ≡ Placeholder = sym e ∙ is in cc wrong
on_is_there w y (inr (inl e)) is = let wrong : On w ≡ Placeholder = sym e ∙ is in cc wrong
on_is_there w y (inr (inr e)) is = let wrong : Ready w ≡ Placeholder = sym e ∙ is in cc wrong

-- Exits ------------------------------------------------------------------------------------------------------

-- nothing was called, or what was called changed nothing
pub untouched : (want : StartWant) (s0 s1 : PortState) → SameMachine s0 s1 → StartLeaves want s0 s1
untouched want s0 s1 same = record {
  here = inl (ap (at want.side) same.post);
  there = ap (at (other want.side)) same.post;
  ran = rw same.kept (none_ran want.side (commands_from want.root 0 want.commands) s0.kept);
  once = λ once. rw same.kept once;
  registered = λ _. same.kept;
  in_order = λ isnt is. absurd (let wrong : false ≡ true = sym isnt ∙ ap (λ p. is_started (at want.side p)) (sym same.post) ∙ is in cc wrong);
  after_power = inr (rw same.kept (none_ran want.side (commands_from want.root 0 (before_power want)) s0.kept));
  untouched = inr same;
}

module _ (want : StartWant) (s0 : PortState) (stood : IsAsWanted (placed_of want) (at want.side s0.post)) where
  -- it wasn't registered, or that failed
  pub registering_fails : (s1 : PortState) → HasTokensOnce s1.kept → ChangesPost want.side s0 s1 (λ post. (post ≡ at want.side s0.post) ⊎ (post ≡ registered (placed_of want) (at want.side s0.post))) → StartLeaves want s0 s1
  registering_fails s1 once r = record {
    here = registered_leaves _ _ _ r.here;
    there = r.there;
    ran = rw r.kept (none_ran want.side (commands_from want.root 0 want.commands) s0.kept);
    once = λ _. once;
    registered = λ _. r.kept;
    in_order = λ isnt is. absurd (not_started _ _ _ r.here isnt is);
    after_power = inr (rw r.kept (none_ran want.side (commands_from want.root 0 (before_power want)) s0.kept));
    untouched = inl stood;
  }

  module _ (d e : Option (List ℕ)) (four : length want.commands ≡ 4) (s1 : PortState) (r : ChangesPost want.side s0 s1 (λ post. post ≡ registered (placed_of want) (at want.side s0.post))) where
    -- the first of the commands before power-on are the first of all
    front : (s : PortState) → RanFirst want.side (commands_from want.root 0 (before_power want)) s0.kept s.kept → RanFirst want.side (commands_from want.root 0 want.commands) s0.kept s.kept
    front s ran =
        subst (λ names. RanFirst want.side (commands_from want.root 0 names) s0.kept s.kept) (four_of want.commands d e four)
        (front_from want.side want.root 0 (take 2 want.commands) (get_or want.commands 2 d ∷ get_or want.commands 3 e ∷ []) s0.kept s.kept ran)

    -- a command before power-on failed
    pub commands_fail : (s2 : PortState) → HasTokensOnce s2.kept → CommandsRun false want.side (commands_from want.root 0 (get_or want.commands 0 d ∷ get_or want.commands 1 e ∷ [])) s1 s2 → StartLeaves want s0 s2
    commands_fail s2 once c =
        let is : at want.side s2.post ≡ registered (placed_of want) (at want.side s0.post) = ap (at want.side) c.post ∙ r.here in
        let ran : RanFirst want.side (commands_from want.root 0 (before_power want)) s0.kept s2.kept = rw (two_of want.commands d e four, r.kept) at c.ran in
        record {
          here = registered_leaves _ _ _ (inr is);
          there = ap (at (other want.side)) c.post ∙ r.there;
          ran = front s2 ran;
          once = λ _. once;
          registered = λ gone. absurd (registered_is_there (placed_of want) (at want.side s0.post) (sym is ∙ gone));
          in_order = λ isnt started. absurd (not_started _ _ _ (inr is) isnt started);
          after_power = inr ran;
          untouched = inl stood;
        }

    -- it was turned on, or that failed
    module _ (s2 s3 : PortState) (codes : List (Option ℕ)) (once : HasTokensOnce s3.kept)
        (c : CommandsRun true want.side (commands_from want.root 0 (get_or want.commands 0 d ∷ get_or want.commands 1 e ∷ [])) s1 s2)
        (told : AreCodes s2.kept want.root 0 (get_or want.commands 0 d ∷ get_or want.commands 1 e ∷ []) codes) where
      all : (s3.kept ≡ s2.kept) → RanAll want.side (commands_from want.root 0 (before_power want)) s0.kept s3.kept
      all same = rw same (rw (two_of want.commands d e four, r.kept) at c.ran)

      are : (s3.kept ≡ s2.kept) → AreKept s3.kept want.root 0 (before_power want)
      are same = rw same (rw (two_of want.commands d e four) at told.are_kept)

      left : PostOutcome StageKind.Start (placed_of want) (at want.side s0.post) (at want.side s3.post) → IsOn (placed_of want) (at want.side s3.post) →
          at (other want.side) s3.post ≡ at (other want.side) s2.post → s3.kept ≡ s2.kept → StartLeaves want s0 s3
      left here on there same = record {
        here = inr here;
        there = there ∙ ap (at (other want.side)) c.post ∙ r.there;
        ran = front s3 (all_is_first want.side _ s0.kept s3.kept (all same));
        once = λ _. once;
        registered = λ gone. absurd (on_is_there _ _ on gone);
        in_order = λ isnt started. are same;
        after_power = inr (all_is_first want.side _ s0.kept s3.kept (all same));
        untouched = inl stood;
      }

      pub turning_on_fails : (found : Post) → found ≡ at want.side s0.post → is_ready found ≡ false → ChangesPost want.side s2 s3 (IsOn (placed_of want)) → StartLeaves want s0 s3
      turning_on_fails found is isnt t = left (on_leaves _ _ _ (rw is at isnt) t.here) t.here t.there t.kept

      pub turned_on : ChangesPost want.side s2 s3 (λ post. post ≡ Ready (placed_of want)) → StartLeaves want s0 s3
      turned_on t = left (inl t.here) (inr (inr t.here)) t.there t.kept

  -- it is ready, and its commands after power-on were run, or one of them failed
  module _ (d e : Option (List ℕ)) (four : length want.commands ≡ 4) (s3 s4 : PortState) (codes : Option ℕ × Option ℕ) (p : PoweredOn want s0 s3 codes)
      (post : s4.post ≡ s3.post) (first : RanFirst want.side (commands_from want.root 2 (get_or want.commands 2 d ∷ get_or want.commands 3 e ∷ [])) s3.kept s4.kept) where
    length_two : (xs : List (Option (List ℕ))) → length xs ≡ 4 → length (take 2 xs) ≡ 2
    length_two [] l = absurd (omega (arith, l))
    length_two (a ∷ []) l = absurd (omega (arith, l))
    length_two (a ∷ b ∷ rest) l = refl

    behind : 0 + length (take 2 want.commands) ≡ 2
    behind = omega (arith, length_two want.commands four)

    later : (codes : List (Option ℕ)) → AreCodes s3.kept want.root 0 (before_power want) codes → AreCodes s4.kept want.root 0 (before_power want) codes
    later codes = kept_later s3.kept s4.kept (keeps_codes want.side _ s3.kept s4.kept first) want.root 0 (before_power want) codes

    pub after_leaves : HasTokensOnce s4.kept → StartLeaves want s0 s4
    after_leaves once = record {
      here = inr (inl (ap (at want.side) post ∙ p.ready));
      there = ap (at (other want.side)) post ∙ p.there;
      ran = subst (λ names. RanFirst want.side (commands_from want.root 0 names) s0.kept s4.kept) (four_of want.commands d e four)
          (first_from want.side want.root 0 (take 2 want.commands) (get_or want.commands 2 d ∷ get_or want.commands 3 e ∷ []) s0.kept s3.kept s4.kept p.ran (rw behind first));
      once = λ _. once;
      registered = λ gone. absurd (let wrong : Ready (placed_of want) ≡ Placeholder = sym p.ready ∙ ap (at want.side) (sym post) ∙ gone in cc wrong);
      in_order = λ isnt started. (later (codes.0 ∷ codes.1 ∷ []) p.told).are_kept;
      after_power = inl (ap (at want.side) post ∙ p.ready);
      untouched = inl stood;
    }

    pub start_made : (third fourth : Option ℕ) → AreCodes s4.kept want.root 2 (get_or want.commands 2 d ∷ get_or want.commands 3 e ∷ []) (third ∷ fourth ∷ []) → StartMade want s0 s4 (codes.0 ∷ codes.1 ∷ third ∷ fourth ∷ [])
    start_made third fourth told = record {
      stood = stood;
      ready = ap (at want.side) post ∙ p.ready;
      told = subst (λ names. AreCodes s4.kept want.root 0 names (codes.0 ∷ codes.1 ∷ third ∷ fourth ∷ [])) (four_of want.commands d e four)
          (codes-append s4.kept want.root 0 (take 2 want.commands) (get_or want.commands 2 d ∷ get_or want.commands 3 e ∷ []) (codes.0 ∷ codes.1 ∷ []) (third ∷ fourth ∷ []) (later (codes.0 ∷ codes.1 ∷ []) p.told) (rw behind told));
    }
