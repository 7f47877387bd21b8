-- Wave by wave: what starting the machines of all waves leaves so far.
use Rattle.std.proofs.Common.{◌≡◌, ◌≢◌, ℕ, ◌+◌, ◌≤◌, ◌<◌, inl, inr, Bool, true, false, List, length, get_or, refl, ◌∙◌, subst, arith}
use Rattle.std.proofs.lemmas.Bool.{cases_eq, cases_Bool, lt-ltb}
use Rattle.std.proofs.lemmas.List.Sums.{passes_at_first}
use Rattle.std.proofs.lemmas.Option.{slice_get-get_or}
use Rattle.std.specs.Prelude.{Option, Some, None, IfSome}
use Rattle.dr_base.specs.declared.side.Side.TheVariants.{B}
use Rattle.dr_base.specs.declared.placement.Placement.{Placement}
use Rattle.dr_inventory.specs.declared.estate.Estate.{Estate}
use Rattle.dr_plan.specs.declared.plan.Wave.{Wave}
use Rattle.dr_outside.specs.declared.machine.Post.TheVariants.{Placeholder, Ready}
use Rattle.dr_base.specs.Lists.{has}
use Rattle.dr_outside.specs.Machines.{PortState}
use Rattle.dr_meaning.specs.Testing.{in_bubble}
use Rattle.dr_testing.specs.declared.start_up.RefusedMachine.{RefusedMachine}
use Rattle.dr_testing.specs.declared.start_up.StartEnd.TheVariants.{Failed, Refused}
use Rattle.dr_testing.specs.Placing.{wave_of, AreStartable}
use Rattle.dr_testing.specs.Starts.{NoneFalls, ChangesAtB, WaveStep, Tried, EachPlaceholder, IsFailedMachine, IsRefusedMachine, IsToldMachine, WerePlaceholders, is_before, AllPlaceholders, AllCause, AllTold, AllStep}
use Rattle.dr_testing.proofs.StartLaws.{rose_later}

-- the machines of so many waves were started
pub record StartedBelow (waves : List Wave) (place : ℕ → Placement) (tells : Type 0) (n : ℕ) (initial now : ℕ → PortState) : Type 0 where
  pub later : (j : ℕ) → NoneFalls (initial j) (now j)
  pub elsewhere : tells → (j : ℕ) → ChangesAtB (initial j) (now j)
  pub above : (j : ℕ) → n ≤ wave_of waves j → now j ≡ initial j
  pub ready : tells → AllPlaceholders waves initial → (j : ℕ) → wave_of waves j < n → (now j).post.b ≡ Ready (in_bubble (place j))
  pub passed : tells → (j : ℕ) → wave_of waves j < n → (initial j).post.b ≡ Placeholder

-- the machines of one wave were tried
pub record WaveDone (wave : List ℕ) (place : ℕ → Placement) (tells : Type 0) (first_failed : Option ℕ) (first_refused : Option RefusedMachine) (before now : ℕ → PortState) : Type 0 where
  pub later : (i : ℕ) → NoneFalls (before i) (now i)
  pub elsewhere : tells → (i : ℕ) → ChangesAtB (before i) (now i)
  pub others : (i : ℕ) → has wave i ≡ false → now i ≡ before i
  pub failed : IfSome first_failed (IsFailedMachine wave before now)
  pub refused : IfSome first_refused (IsRefusedMachine wave place)
  pub told : tells → IfSome first_refused (IsToldMachine before)
  pub passed : tells → WerePlaceholders wave first_failed first_refused before
  pub step : tells → EachPlaceholder wave before → (i : ℕ) → WaveStep (has wave i) (is_before first_failed i) (in_bubble (place i)) (before i) (now i)
  pub only_failed : tells → EachPlaceholder wave before → first_refused ≡ None

-- a wave has the machines whose wave it is, and no others
pub record IsWaveAt (waves : List Wave) (n : ℕ) (wave : List ℕ) : Type 0 where
  pub within : n < length waves
  pub on : (i : ℕ) → wave_of waves i ≡ n → has wave i ≡ true
  pub back : (i : ℕ) → has wave i ≡ true → wave_of waves i ≡ n

-- before the first wave
pub none_started : (waves : List Wave) (place : ℕ → Placement) (tells : Type 0) (initial : ℕ → PortState) → StartedBelow waves place tells 0 initial initial
none_started waves place tells initial = record {
  later = λ j side. omega arith;
  elsewhere = λ t j. record { protected = refl; kept = refl };
  above = λ j le. refl;
  ready = λ t p j lt. absurd (omega (arith, lt));
  passed = λ t j lt. absurd (omega (arith, lt));
}

module _ (waves : List Wave) (place : ℕ → Placement) (tells : Type 0) (n : ℕ) (wave : List ℕ) (it : IsWaveAt waves n wave) (initial before now : ℕ → PortState) (s : StartedBelow waves place tells n initial before) where
  off : (i : ℕ) → wave_of waves i ≢ n → has wave i ≡ false
  off i ne = elim (cases_Bool (has wave i)) [
    | inl listed ↦ absurd (ne (it.back i listed))
    | inr isnt ↦ isnt
  ]

  module _ (first_failed : Option ℕ) (first_refused : Option RefusedMachine) (w : WaveDone wave place tells first_failed first_refused before now) where
    unmoved : (i : ℕ) → wave_of waves i ≢ n → now i ≡ before i
    unmoved i ne = w.others i (off i ne)

    pub later_all : (j : ℕ) → NoneFalls (initial j) (now j)
    later_all j side = omega (arith, s.later j side, w.later j side)

    pub elsewhere_all : tells → (j : ℕ) → ChangesAtB (initial j) (now j)
    elsewhere_all t j =
        let one : ChangesAtB (before j) (now j) = w.elsewhere t j in
        let so_far : ChangesAtB (initial j) (before j) = s.elsewhere t j in
        record { protected = one.protected ∙ so_far.protected; kept = one.kept ∙ so_far.kept }

    pub above_all : (j : ℕ) → n < wave_of waves j → now j ≡ initial j
    above_all j lt = unmoved j (λ e. absurd (omega (arith, e, lt))) ∙ s.above j (omega arith)

    -- a machine of no wave isn't touched
    pub others_all : (j : ℕ) → length waves ≤ wave_of waves j → now j ≡ initial j
    others_all j past = above_all j (omega (arith, past, it.within))

    -- each machine of the wave was a placeholder
    placeholders : AllPlaceholders waves initial → EachPlaceholder wave before
    placeholders p i listed =
        let is : wave_of waves i ≡ n = it.back i listed in
        rw (s.above i (omega (arith, is))) (p i (omega (arith, is, it.within)))

    -- a machine of an earlier wave is ready still
    still_ready : tells → AllPlaceholders waves initial → (j : ℕ) → wave_of waves j < n → (now j).post.b ≡ Ready (in_bubble (place j))
    still_ready t p j lt = rw (unmoved j (λ e. absurd (omega (arith, e, lt)))) (s.ready t p j lt)

  -- none failed, and none was refused
  pub all_started : WaveDone wave place tells None None before now → StartedBelow waves place tells (n + 1) initial now
  all_started w = record {
    later = later_all None None w;
    elsewhere = elsewhere_all None None w;
    above = λ j le. above_all None None w j (omega arith);
    ready = λ t p j lt. elim (cases_eq (wave_of waves j) n) [
      | inl e ↦
          let step : WaveStep true true (in_bubble (place j)) (before j) (now j) = rw (it.on j e) at (w.step t (placeholders None None w p) j) in
          step
      | inr ne ↦ still_ready None None w t p j (omega arith)
    ];
    passed = λ t j lt. elim (cases_eq (wave_of waves j) n) [
      | inl e ↦ rw (← s.above j (omega (arith, e))) (w.passed t refl j (it.on j e) refl)
      | inr ne ↦ s.passed t j (omega arith)
    ];
  }

  -- one failed
  module _ (m : ℕ) (first_refused : Option RefusedMachine) (w : WaveDone wave place tells (Some m) first_refused before now) where
    m_wave : wave_of waves m ≡ n
    m_wave = it.back m w.failed.listed

    pub failed_cause : AllCause waves place initial now (Failed m)
    failed_cause = record {
      listed = omega (arith, m_wave, it.within);
      rose = rose_later _ _ _ (s.later m B) w.failed.rose;
      untouched = λ j lt. above_all (Some m) first_refused w j (omega (arith, lt, m_wave));
    }

    tried_of : (sound : Bool) (j : ℕ) → before j ≡ initial j → WaveStep true sound (in_bubble (place j)) (before j) (now j) → Tried (in_bubble (place j)) (initial j) (now j)
    tried_of true j e ready = record { stands = inr (inr (inr ready)); outcome = inl ready }
    tried_of false j e t = rw (← e) t

    pub failed_step : tells → AllPlaceholders waves initial → AllStep waves (λ j. in_bubble (place j)) initial now (Failed m)
    failed_step t p = record {
      earlier = λ j lt. still_ready (Some m) first_refused w t p j (omega (arith, lt, m_wave));
      tried = λ j e.
          let is : wave_of waves j ≡ n = e ∙ m_wave in
          tried_of (is_before (Some m) j) j (s.above j (omega (arith, is))) (rw (it.on j is) at (w.step t (placeholders (Some m) first_refused w p) j));
      least = λ j lt e.
          let is : wave_of waves j ≡ n = e ∙ m_wave in
          let step : WaveStep true true (in_bubble (place j)) (before j) (now j) = rw (it.on j is, lt-ltb j m lt) at (w.step t (placeholders (Some m) first_refused w p) j) in
          step;
    }

  -- none failed, and one was refused
  module _ (r : RefusedMachine) (w : WaveDone wave place tells None (Some r) before now) where
    pub refused_cause : AllCause waves place initial now (Refused r)
    refused_cause = record {
      listed = omega (arith, it.back r.machine w.refused.listed, it.within);
      codes = w.refused.codes;
      untouched = λ j lt. above_all None (Some r) w j (omega (arith, lt, it.back r.machine w.refused.listed));
    }

    r_wave : wave_of waves r.machine ≡ n
    r_wave = it.back r.machine w.refused.listed

    pub refused_told : tells → AllTold waves initial (Refused r)
    refused_told t =
        let codes : IsToldMachine initial r = rw (← s.above r.machine (omega (arith, r_wave))) (w.told t) in (
          codes,
          record {
            earlier = λ j lt. s.passed t j (omega (arith, lt, r_wave));
            least = λ j lt e.
                let is : wave_of waves j ≡ n = e ∙ r_wave in
                rw (← s.above j (omega (arith, is))) (w.passed t refl j (it.on j is) (lt-ltb j r.machine lt));
          },
        )

    pub refused_step : tells → AllPlaceholders waves initial → ⊥
    refused_step t p = cc (w.only_failed t (placeholders None (Some r) w p))

-- the wave at a place
pub wave_at : (estate : Estate) (waves : List Wave) → AreStartable estate waves → (n : ℕ) (d : Wave) → n < length waves → IsWaveAt waves n (get_or waves n d).machines
wave_at estate waves startable n d within = record {
  within = within;
  on = λ i e. subst (λ k. has (get_or waves k d).machines i ≡ true) e (passes_at_first (λ w. has w.machines i) waves d (omega (arith, e, within)));
  back = λ i l. startable.apart n i (get_or waves n d) (slice_get-get_or waves n d within) l;
}
