-- What a word is as a signed number, by which half it lies in.
use Rattle.std.proofs.Common.{◌≡◌, ℕ, ◌+◌, ◌-◌, ◌%◌, ◌<◌, ◌≤◌, pos, negsuc, ◌-ℤ◌, arith, w32, to_z}
use Rattle.std.proofs.lemmas.Grind.{common_steps}
use Rattle.std.proofs.lemmas.Int.{ints}
use Rattle.words.specs.Word.{signed_of}

pub low : (w : ℕ) → w < 2147483648 → signed_of w ≡ pos w
unfolding signed_of
low w h = grind (arith, common_steps)

pub high : (w : ℕ) → 2147483648 ≤ w → w < 4294967296 → signed_of w ≡ negsuc (4294967295 - w)
unfolding signed_of
high w h l = grind (arith, common_steps, ints)

-- the library's cast, in the rules' words
pub cast : (w : ℕ) → w < 4294967296 → to_z w32 w ≡ signed_of w
unfolding signed_of
cast w l = grind (arith, common_steps, ints)

-- 2^31 added and taken away again, around 2^32
pub shifted : (w u : ℕ) → w < 4294967296 → u ≡ (w + 2147483648) % 4294967296 → pos u -ℤ pos 2147483648 ≡ signed_of w
unfolding signed_of
shifted w u l e = grind (arith, common_steps, ints)
