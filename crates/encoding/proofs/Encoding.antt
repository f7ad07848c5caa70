-- Numbers as bytes, one number after the other.
use Rattle.std.proofs.Common.{◌≡◌, ℕ, ◌+◌, ◌*◌, ◌-◌, ◌<◌, List, [], ◌∷◌, ◌++◌, length, take, drop, get_or, sym, refl, ap, ◌∙◌, append_assoc, append-nil, arith, length-append, add-one, ℤ, pos, negsuc, w64, of_z}
use Rattle.std.specs.Int.{to_le_bytes}
use native.Mathlib.Nat.{le_of_lt}
use lib.Seq.{take-suc, length-take-le}
use borrow.Rule.Slice.PartMut.{put_mid}
use Rattle.exact.proofs.Lending.{lent_back}
use Rattle.encoding.specs.Encoding.{bits_of, bytes_of, encoded}

-- the library's bytes of a number, in the rules' words
pub le_bytes : (z : ℤ) → to_le_bytes w64 (of_z w64 z) ≡ bytes_of (bits_of z)
unfolding bytes_of
le_bytes (pos n) = refl
le_bytes (negsuc n) = simp add-one refl

pub eight_bytes : (bits : ℕ) → length (bytes_of bits) ≡ 8
unfolding bytes_of
eight_bytes bits = refl

pub encoded_length : (numbers : List ℤ) → length (encoded numbers) ≡ 8 * length numbers
unfolding encoded
encoded_length [] = refl
encoded_length (z ∷ numbers) = simp (length-append, eight_bytes, encoded_length numbers) (omega arith)

pub encoded_append : (numbers more : List ℤ) → encoded (numbers ++ more) ≡ encoded numbers ++ encoded more
unfolding encoded
encoded_append [] more = refl
encoded_append (z ∷ numbers) more = rw (encoded_append numbers more) (sym (append_assoc (bytes_of (bits_of z)) (encoded numbers) (encoded more)))

pub encoded_one : (z : ℤ) → encoded (z ∷ []) ≡ bytes_of (bits_of z)
unfolding encoded
encoded_one z = append-nil (bytes_of (bits_of z))

encoded_more : (numbers : List ℤ) (i : ℕ) → i < length numbers
    → encoded (take (i + 1) numbers) ≡ encoded (take i numbers) ++ bytes_of (bits_of (get_or numbers i (pos 0)))
encoded_more numbers i h =
    let z = get_or numbers i (pos 0) in
    rw (add-one, take-suc numbers i (pos 0)) (encoded_append (take i numbers) (z ∷ []) ∙ rw (encoded_one z))

-- a turn of the loop that stores number after number
pub encoded_step : (numbers : List ℤ) (i : ℕ) (z : ℤ) (before xs part : List ℕ) → i < length numbers → z ≡ get_or numbers i (pos 0)
    → xs ≡ encoded (take i numbers) ++ drop (8 * i) before
    → part ≡ bytes_of (bits_of z) ++ drop 8 (take (length xs - 8 * i) (drop (8 * i) xs))
    → put_mid (8 * i) (length xs - 8 * i) xs part ≡ encoded (take (i + 1) numbers) ++ drop (8 * (i + 1)) before
encoded_step numbers i z before xs part h is stands came =
    let next : 8 * (i + 1) ≡ 8 * i + 8 = omega arith in
    rw (encoded_more numbers i h, ← is, next)
    (lent_back (encoded (take i numbers)) before (bytes_of (bits_of z)) xs part (8 * i) 8
    (encoded_length (take i numbers) ∙ rw (length-take-le i numbers (le_of_lt h))) stands came)

-- the bytes from `to` on came back with those of `more` at their front, behind those of `done`
pub bytes_more : (done more whole : List ℤ) (before xs part : List ℕ) (to k : ℕ) → whole ≡ done ++ more → length (encoded done) ≡ to
    → xs ≡ encoded done ++ drop to before → part ≡ encoded more ++ drop k (take (length xs - to) (drop to xs))
    → put_mid to (length xs - to) xs part ≡ encoded whole ++ drop (to + k) before
bytes_more done more whole before xs part to k is long stands came =
    lent_back (encoded done) before (encoded more) xs part to k long stands came
    ∙ ap (λ w. w ++ drop (to + k) before) (sym (ap encoded is ∙ encoded_append done more))
