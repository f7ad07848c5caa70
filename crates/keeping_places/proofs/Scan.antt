-- A scan of the contents for a date.
use Rattle.std.proofs.Common.{◌≡◌, ℕ, zero, suc, ◌+◌, ◌-◌, ◌≤◌, ◌<◌, Bool, true, false, List, arith}
use Rattle.book.specs.Read.{date_at}
use Rattle.keeping_places.specs.Place.{before_first}

module _ (room : List ℕ) where
  -- a scan: it ends within its entries; a turn that goes on, one that stops, and the end
  module _ (test : ℕ → Bool) where
    pub scan_within : (k m : ℕ) → before_first room test k m ≤ m
    unfolding before_first
    scan_within k zero = omega arith
    scan_within k (suc m) = grind (arith, scan_within (suc k) m)

    pub scan_next : (k m : ℕ) → test (date_at room k) ≡ false → k < m
        → k + before_first room test k (m - k) ≡ k + 1 + before_first room test (k + 1) (m - (k + 1))
    unfolding before_first
    scan_next k m t h =
        let e : m - k ≡ suc (m - (k + 1)) = omega arith in
        grind (arith, e, t)

    pub scan_stop : (k m : ℕ) → test (date_at room k) ≡ true → k < m → k + before_first room test k (m - k) ≡ k
    unfolding before_first
    scan_stop k m t h =
        let e : m - k ≡ suc (m - (k + 1)) = omega arith in
        grind (arith, e, t)

    pub scan_end : (k m : ℕ) → k ≡ m → k + before_first room test k (m - k) ≡ m
    unfolding before_first
    scan_end k m h =
        let e : m - k ≡ 0 = omega arith in
        grind (arith, e)
