-- The peak hours are the bits of the peak word: bit h is set exactly for h from 6 to 21, and a word of 0 has none set.
use Prim.Native.Nat.{ℕ, zero, suc, ◌<◌}
use mathlib.Core.Bool.{Bool, true, false, ◌&&◌, not, true≢false}
use mathlib.Core.Logic.{◌⊎◌, ⊎_elim}
use mathlib.Core.Path.{◌≡◌, refl, sym}
use native.Mathlib.Nat.{eq-or-lt_of_le, le_of_suc-le-suc}
use native.Mathlib.Omega.{arith}
use lib.Dec.{leb}
use Rattle.limits.specs.Ranges.{peak_word}
use Rattle.verdict.proofs.First.{both}
use Rattle.surcharge.specs.declared.Terms.{Terms}
use Rattle.surcharge.specs.Surcharge.{peak_hour, bit_set}

-- whether two tests agree, and whether they do for each h below n
abbrev agree : Bool → Bool → Bool
agree true b = b
agree false b = not b

agree_same : (a b : Bool) → agree a b ≡ true → a ≡ b
agree_same true true e = refl
agree_same true false e = absurd (true≢false (sym e))
agree_same false false e = refl
agree_same false true e = absurd (true≢false (sym e))

abbrev below : (ℕ → Bool) → ℕ → Bool
below test zero = true
below test (suc n) = test n && below test n

each : (test : ℕ → Bool) (n : ℕ) → below test n ≡ true → (h : ℕ) → h < n → test h ≡ true
each test zero e h p = absurd (omega arith)
each test (suc n) e h p =
    let k = both (test n) (below test n) e in
    ⊎_elim (λ (q : h ≡ n). rw q k.0) (λ (q : h < n). each test n k.1 h q) (eq-or-lt_of_le (le_of_suc-le-suc p))

-- of the 32 bits of a word
pub peak_bits : (h : ℕ) → h < 32 → bit_set peak_word h ≡ (leb 6 h && leb h 21)
peak_bits h p = agree_same _ _ (each (λ (i : ℕ). agree (bit_set peak_word i) (leb 6 i && leb i 21)) 32 refl h p)

no_bits : (h : ℕ) → h < 32 → bit_set 0 h ≡ false
no_bits h p = agree_same _ _ (each (λ (i : ℕ). agree (bit_set 0 i) false) 32 refl h p)

-- so a peak hour is one whose bit is set
pub peak_hour_bits : (terms : Terms) → (terms.peak ≡ 0) ⊎ (terms.peak ≡ peak_word) → (h : ℕ) → h < 32 → peak_hour terms h ≡ bit_set terms.peak h
peak_hour_bits terms known h p = ⊎_elim (λ e. rw e (sym (no_bits h p))) (λ e. rw e (sym (peak_bits h p))) known
