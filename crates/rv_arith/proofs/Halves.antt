-- The high half of a product that fits 64 bits.
use Rattle.std.proofs.Common.{◌≡◌, ℕ, ◌*◌, ◌<◌, ◌≤◌, ◌^◌, refl, ◌∙◌, arith}
use Rattle.std.specs.Prelude.{ℤ, pos, negsuc, ◌*ℤ◌, unsigned_abs}
use Rattle.std.specs.Int.{w32, w64, cast_unsigned, cast_signed, int_shr}
use Rattle.std.proofs.lemmas.Int.{to_z-of_z, fits_signed_mul}
use lib.Signed.{mag, nat_abs-le}
use mir.Val.{SFits}

-- the high half fits 32 bits
pub high_fits : (z : ℤ) → mag z < 2 ^ 63 → mag (int_shr z 32) < 2 ^ 31
high_fits (pos n) h = omega arith
high_fits (negsuc n) h = omega arith

pub high_half : (a b : ℤ) (m n : ℕ) → unsigned_abs a ≤ m → unsigned_abs b ≤ n → m * n < 2 ^ 63 → SFits w64 a → SFits w64 b
    → cast_unsigned w32 (cast_signed w32 (cast_unsigned w32 (cast_signed w64 (cast_unsigned w64
    (int_shr (cast_signed w64 (cast_unsigned w64 (cast_signed w64 (cast_unsigned w64 a) *ℤ cast_signed w64 (cast_unsigned w64 b)))) 32)))))
    ≡ cast_unsigned w32 (int_shr (a *ℤ b) 32)
high_half a b m n a_is b_is small fits_a fits_b =
    let fits : SFits w64 (a *ℤ b) = fits_signed_mul w64 a b m n a_is b_is small in
    let half : mag (int_shr (a *ℤ b) 32) < 2 ^ 31 = high_fits (a *ℤ b) fits.sfits in
    let fits_high : SFits w64 (int_shr (a *ℤ b) 32) = record { sfits = omega arith } in
    let fits_half : SFits w32 (int_shr (a *ℤ b) 32) = record { sfits = half } in
    rw (
      to_z-of_z w64 a fits_a,
      to_z-of_z w64 b fits_b,
      to_z-of_z w64 (a *ℤ b) fits,
      to_z-of_z w64 (int_shr (a *ℤ b) 32) fits_high,
      to_z-of_z w32 (int_shr (a *ℤ b) 32) fits_half,
    ) refl

-- a number that was made of its signed reading, widened
pub widened : (x : ℕ) (read wide : ℤ) → read ≡ cast_signed w32 x → mag read < 2 ^ 31 → wide ≡ cast_signed w32 (cast_unsigned w32 read) → wide ≡ cast_signed w32 x
widened x read wide is fits made =
    let fitting : SFits w32 read = record { sfits = fits } in
    made ∙ to_z-of_z w32 read fitting ∙ is

-- its size
pub magnitude : (x : ℕ) (read wide : ℤ) → read ≡ cast_signed w32 x → mag read < 2 ^ 31 → wide ≡ cast_signed w32 (cast_unsigned w32 read) → unsigned_abs wide ≤ 2 ^ 31
magnitude x read wide is fits made =
    let fitting : SFits w32 read = record { sfits = fits } in
    rw (made, to_z-of_z w32 read fitting) (nat_abs-le read fits)
