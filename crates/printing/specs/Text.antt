-- The text that the script program prints: document 01, "The script program". A text is the list of its bytes.
-- Assumes nothing.
use Rattle.std.specs.Prelude.{ℕ, zero, suc, ◌+◌, ◌-◌, ◌/◌, ◌%◌, ◌^◌, ◌<◌, ◌≤◌, cond, List, [], ◌∷◌, ◌++◌, ◌≡◌, ltb, length}
use Prim.Native.Char.{code}
use Prim.Native.String.{String, [] as []ˢ, ◌∷◌ as ◌∷ˢ◌}
use Rattle.std.proofs.Common.{sym, ap, ◌∙◌, pow-suc, arith, length-append, lt-ltb, le-ltb}
use Rattle.std.proofs.Math.Decide.{dec_lt}
use Rattle.refusal.specs.declared.Refusal.{Refusal}
use Rattle.refusal.specs.Numbers.{number}
use Rattle.semantics.specs.declared.Answer.{Answer}
use Rattle.semantics.specs.declared.Answer.TheVariants.{Word, Units, Done, Refused}
use Rattle.semantics.specs.Steps.{number_of, value_of}

-- the bytes of a quoted text in ASCII
abbrev pub text : String → List ℕ
text []ˢ = []
text (c ∷ˢ s) = code c ∷ text s

-- the digit of a number below 16: "upper-case hex"
unfoldable pub digit_of : ℕ → ℕ
digit_of n = cond (ltb n 10) (code "0" + n) (code "A" + (n - 10))

-- at most so many decimal digits of a number, highest first and without leading zero. 0 has one digit
unfoldable pub digits : ℕ → ℕ → List ℕ
digits zero n = []
digits (suc k) n = cond (ltb n 10) (digit_of n ∷ []) (digits k (n / 10) ++ (digit_of (n % 10) ∷ []))

-- a number in decimal: no number of 64 bits has more than 20 digits
unfoldable pub decimal : ℕ → List ℕ
decimal n = digits 20 n

-- a word in 4 hex digits, highest first
unfoldable pub hex4 : ℕ → List ℕ
hex4 w = digit_of (w / 4096 % 16) ∷ digit_of (w / 256 % 16) ∷ digit_of (w / 16 % 16) ∷ digit_of (w % 16) ∷ []

-- "4 hex digits (R), units in decimal (K), `ok`, or `refused` and the number": the words for each kind of answer, from
-- its value and its refusal number
abbrev pub wording : Answer → ℕ → ℕ → List ℕ
wording (Word w) value number = hex4 value
wording (Units n) value number = decimal value
wording Done value number = text "ok"
wording (Refused e) value number = text "refused " ++ decimal number

-- the value and the number are document 01's
unfoldable pub answer_text : Answer → List ℕ
answer_text a = wording a (value_of a) (number_of a)

-- "Each line prints its number, a space, then" the answer, and ends in LF
unfoldable pub line_text : ℕ → Answer → List ℕ
line_text k a = decimal k ++ text " " ++ answer_text a ++ text "\n"

-- "At the end: `end` and the count of lines."
unfoldable pub end_text : ℕ → List ℕ
end_text n = text "end " ++ decimal n ++ text "\n"

-- ---- laws of the decimal digits

digits_one : (k n : ℕ) → n < 10 → digits (suc k) n ≡ digit_of n ∷ []
unfolding digits
digits_one k n h = rw (lt-ltb n 10 h)

digits_more : (k n : ℕ) → 10 ≤ n → digits (suc k) n ≡ digits k (n / 10) ++ (digit_of (n % 10) ∷ [])
unfolding digits
digits_more k n h = rw (le-ltb n 10 h)

-- one digit more than are enough changes nothing
digits_enough : (k n : ℕ) → n < 10 ^ suc k → digits (suc k) n ≡ digits (suc (suc k)) n
digits_enough zero n h = digits_one 0 n h ∙ sym (digits_one 1 n h)
digits_enough (suc k) n h = go (dec_lt n 10) (digits_enough k (n / 10))
  where
    go : Dec (n < 10) → (n / 10 < 10 ^ suc k → digits (suc k) (n / 10) ≡ digits (suc (suc k)) (n / 10)) → digits (suc (suc k)) n ≡ digits (suc (suc (suc k))) n
    go (yes s) rest = digits_one (suc k) n s ∙ sym (digits_one (suc (suc k)) n s)
    go (no s) rest =
        digits_more (suc k) n (omega arith)
        ∙ ap (λ (l : List ℕ). l ++ (digit_of (n % 10) ∷ [])) (rest (omega (arith, pow-suc 10 (suc k))))
        ∙ sym (digits_more (suc (suc k)) n (omega arith))

pub decimal_one : (n : ℕ) → n < 10 → decimal n ≡ digit_of n ∷ []
unfolding decimal
decimal_one = digits_one 19

pub decimal_more : (n : ℕ) → 10 ≤ n → n < 10 ^ 20 → decimal n ≡ decimal (n / 10) ++ (digit_of (n % 10) ∷ [])
unfolding decimal
decimal_more n h k = digits_more 19 n h ∙ ap (λ (l : List ℕ). l ++ (digit_of (n % 10) ∷ [])) (digits_enough 18 (n / 10) (omega arith))

-- ---- how long a text is at most

-- a number below 10 to the k has at most k digits
digits_short : (j k n : ℕ) → n < 10 ^ suc k → length (digits j n) ≤ suc k
unfolding digits
digits_short zero k n h = omega arith
digits_short (suc j) zero n h = rw (lt-ltb n 10 h) (omega arith)
digits_short (suc j) (suc k) n h = go (dec_lt n 10) (digits_short j k (n / 10))
  where
    go : Dec (n < 10) → (n / 10 < 10 ^ suc k → length (digits j (n / 10)) ≤ suc k) → length (digits (suc j) n) ≤ suc (suc k)
    go (yes s) rest = rw (lt-ltb n 10 s) (omega arith)
    go (no s) rest = rw (le-ltb n 10 (omega arith)) (omega (arith, length-append (digits j (n / 10)) (digit_of (n % 10) ∷ []), rest (omega (arith, pow-suc 10 (suc k)))))

module _ (n : ℕ) where
  decimal_1 : n < 10 → length (decimal n) ≤ 1
  unfolding decimal
  decimal_1 h = digits_short 20 0 n h

  decimal_5 : n < 100000 → length (decimal n) ≤ 5
  unfolding decimal
  decimal_5 h = digits_short 20 4 n h

-- a word, at most five digits of units, `ok`, and a refusal of one digit: 9 bytes at most
pub word_short : (w : ℕ) → length (answer_text (Word w)) ≤ 9
unfolding answer_text hex4
word_short w = omega arith

pub units_short : (n : ℕ) → n < 100000 → length (answer_text (Units n)) ≤ 9
unfolding answer_text
units_short n h = omega (arith, decimal_5 n h)

pub done_short : length (answer_text Done) ≤ 9
unfolding answer_text
done_short = omega arith

pub refused_short : (e : Refusal) → number e < 10 → length (answer_text (Refused e)) ≤ 9
unfolding answer_text
refused_short e h = omega (arith, length-append (text "refused ") (decimal (number e)), decimal_1 (number e) h)

-- `16384 refused 6` and LF: 16 bytes at most
pub line_short : (k : ℕ) (a : Answer) → k < 100000 → length (answer_text a) ≤ 9 → length (line_text k a) ≤ 16
unfolding line_text
line_short k a h s = simp length-append (omega (arith, decimal_5 k h))

-- `end 16384` and LF: 10 bytes at most
pub end_short : (n : ℕ) → n < 100000 → length (end_text n) ≤ 10
unfolding end_text
end_short n h = simp length-append (omega (arith, decimal_5 n h))
