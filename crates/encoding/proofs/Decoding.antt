-- Numbers read back from their bytes.
use Rattle.std.proofs.Common.{◌≡◌, ℕ, zero, suc, ◌+◌, ◌/◌, ◌<◌, List, [], ◌∷◌, ◌++◌, length, take, drop, get_or, set, map, sym, refl, ap, ap₂, ◌∙◌, arith, ℤ, pos, negsuc, SFits, w64, to_z, of_z, to_z-of_z}
use Rattle.std.proofs.lemmas.Grind.{common_steps, take-set_at}
use Rattle.std.proofs.lemmas.List.{map_more, take_at, drop_at, length-map, length-take, take-append-drop, drop-set-lt, drop-drop}
use Rattle.std.proofs.lemmas.Nat.{from_le_bytes-to_le_bytes_8}
use Rattle.std.specs.Simd.{first_chunks}
use Rattle.encoding.specs.Encoding.{bits_of, bytes_of, encoded, number_in, AllFit, NumbersIn}
use Rattle.encoding.proofs.Encoding.{eight_bytes, encoded_length, le_bytes}

-- ---- lists of numbers that fit

pub fit_none : AllFit []
fit_none = record { each = λ i h. absurd (omega arith) }

each_fits : (z : ℤ) (numbers : List ℤ) → SFits w64 z → AllFit numbers → (i : ℕ) → i < length (z ∷ numbers)
    → SFits w64 (get_or (z ∷ numbers) i (pos 0))
each_fits z numbers first fit zero h = first
each_fits z numbers first fit (suc i) h = fit.each i (omega arith)

pub fit_cons : (z : ℤ) (numbers : List ℤ) → SFits w64 z → AllFit numbers → AllFit (z ∷ numbers)
fit_cons z numbers first fit = record { each = each_fits z numbers first fit }

fit_rest : (z : ℤ) (numbers : List ℤ) → AllFit (z ∷ numbers) → AllFit numbers
fit_rest z numbers fit = record { each = λ i h. fit.each (suc i) (omega arith) }

pub fit_append : (numbers more : List ℤ) → AllFit numbers → AllFit more → AllFit (numbers ++ more)
fit_append [] more fit also = also
fit_append (z ∷ numbers) more fit also =
    fit_cons z (numbers ++ more) (fit.each 0 (omega arith)) (fit_append numbers more (fit_rest z numbers fit) also)

-- ---- numbers that are taken

below : (z : ℤ) → SFits w64 z → of_z w64 z < 18446744073709551616
below (pos n) f = omega (arith, f.sfits)
below (negsuc n) f = omega arith

number_back : (z : ℤ) → SFits w64 z → number_in (bytes_of (bits_of z)) ≡ z
number_back z f = rw (← le_bytes z) (ap (to_z w64) (from_le_bytes-to_le_bytes_8 (of_z w64 z) (below z f)) ∙ to_z-of_z f)

all_back : (numbers : List ℤ) → AllFit numbers → map number_in (first_chunks 8 (length numbers) (encoded numbers)) ≡ numbers
unfolding encoded
all_back [] fit = refl
all_back (z ∷ numbers) fit =
    let eight = bytes_of (bits_of z) in
    let long = eight_bytes (bits_of z) in
    rw (take_at eight (encoded numbers) 8 long, drop_at eight (encoded numbers) 8 long)
    (ap₂ ◌∷◌ (number_back z (fit.each 0 (omega arith))) (all_back numbers (fit_rest z numbers fit)))

pub taken : (bytes : List ℕ) (before : List ℤ)
    → NumbersIn bytes before (map number_in (first_chunks 8 (length bytes / 8) bytes) ++ drop (length bytes / 8) before)
taken bytes before = record { are = λ numbers fit e. grind (arith, common_steps, e, encoded_length numbers, all_back numbers fit) }

-- a turn of the loop that takes number after number
pub taken_more : {A B : Type 0} (f : A → B) (xs : List A) (before after : List B) (i : ℕ) (d : A) → i < length xs → i < length after
    → after ≡ map f (take i xs) ++ drop i before → set after i (f (get_or xs i d)) ≡ map f (take (i + 1) xs) ++ drop (i + 1) before
taken_more f xs before after i d h k e =
    let v = f (get_or xs i d) in
    let long : length (map f (take i xs)) ≡ i = simp (length-map, length-take) (omega arith) in
    let front : take i after ≡ map f (take i xs) = rw e (take_at _ _ i long) in
    let back : drop (i + 1) after ≡ drop (i + 1) before = rw (← drop-drop 1 i after, e, drop_at _ _ i long) (drop-drop 1 i before) in
    sym (take-append-drop (i + 1) (set after i v))
    ∙ rw (take-set_at after i (i + 1) v refl k, drop-set-lt (i + 1) after i v (omega arith), front, back, map_more f xs i d h)
