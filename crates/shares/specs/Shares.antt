-- Shares (docs/RULES.md, section 8): an amount A shared among coordinators by their running demands.
use Rattle.std.specs.Prelude.{false, List, [], ◌∷◌, ◌++◌, ◌≡◌, ℕ, ◌+◌, ℤ, pos, ◌+ℤ◌, ◌-ℤ◌, ◌*ℤ◌, take, drop}
use Rattle.std.specs.Int.Signed.{lt_z}
use Rattle.exact.specs.Round.{round_div}
use Rattle.exact.specs.Total.{total}

-- R(A × C / T), and 0 where T is 0
abbrev pub up_to : ℤ → ℕ → ℕ → ℤ
up_to amount t c = round_div (amount *ℤ pos c) t

-- "charge i = R(A × Ci / T) - R(A × C(i-1) / T)", for the demands behind running demand c
unfoldable pub shares_from : ℤ → ℕ → ℕ → List ℕ → List ℤ
shares_from amount t c [] = []
shares_from amount t c (d ∷ ds) = (up_to amount t (c + d) -ℤ up_to amount t c) ∷ shares_from amount t (c + d) ds

-- "with running demands C0 = 0, C1, .. and total T"
unfoldable pub shares : ℤ → List ℕ → List ℤ
shares amount ds = shares_from amount (total ds) 0 ds

-- ---- what the laws of sharing speak of

-- T × charge - A × D, for a charge at demand D
abbrev pub apart : ℕ → ℤ → ℤ → ℕ → ℤ
apart t amount charge d = pos t *ℤ charge -ℤ amount *ℤ pos d

-- what charges add up to
unfoldable pub sum : List ℤ → ℤ
sum [] = pos 0
sum (z ∷ zs) = z +ℤ sum zs

-- b is not below 0 where a is not, and not above 0 where a is not
pub record SameSign (a b : ℤ) : Type 0 where
  pub not_below : lt_z a (pos 0) ≡ false → lt_z b (pos 0) ≡ false
  pub not_above : lt_z (pos 0) a ≡ false → lt_z (pos 0) b ≡ false

-- the n neighbours from place i on merged into one, by `add`
abbrev pub merged_at : {A : Type 0} → (List A → A) → ℕ → ℕ → List A → List A
merged_at add i n xs = take i xs ++ (add (take n (drop i xs)) ∷ drop (i + n) xs)
