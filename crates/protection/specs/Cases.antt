-- The report at words that are written out, computed. Examples for the reader, and no more: Laws says what holds of all words.
-- Assumes nothing.
use Rattle.std.specs.Prelude.{[], ◌∷◌, ◌≡◌, refl}
use Rattle.protection.specs.Words.{bit, bit_at, count, least, unprotected_count, lowest_unprotected, report_of, all_protected}

-- blocks 66 and 67
pub two_unprotected : report_of (0 ∷ 12 ∷ 0 ∷ 0 ∷ 0 ∷ []) ≡ record { count = 2; lowest = 66 }
unfolding bit bit_at count least unprotected_count lowest_unprotected report_of
two_unprotected = refl

pub none_unprotected : report_of all_protected ≡ record { count = 0; lowest = 259 }
unfolding bit bit_at count least unprotected_count lowest_unprotected report_of all_protected
none_unprotected = refl

-- block 258, the last
pub last_unprotected : report_of (0 ∷ 0 ∷ 0 ∷ 0 ∷ 4 ∷ []) ≡ record { count = 1; lowest = 258 }
unfolding bit bit_at count least unprotected_count lowest_unprotected report_of
last_unprotected = refl

-- a spare digit is no block
pub spare_not_counted : report_of (0 ∷ 0 ∷ 0 ∷ 0 ∷ 8 ∷ []) ≡ record { count = 0; lowest = 259 }
unfolding bit bit_at count least unprotected_count lowest_unprotected report_of
spare_not_counted = refl
