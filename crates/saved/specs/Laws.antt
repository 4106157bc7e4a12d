-- Laws of the saved words: a state whose numbers fit their types is got back from its words, and words that are no
-- saved state say one that the device refuses.
-- Assumes nothing.
use Rattle.std.specs.Prelude.{ℕ, zero, suc, ◌+◌, ◌*◌, ◌/◌, ◌%◌, ◌^◌, ◌<◌, ◌≤◌, Bool, true, false, ◌&&◌, List, [], ◌∷◌, ◌++◌, ◌≡◌, refl, eqb, length, get_or, take, drop, set, replicate, Option, Some, None}
use Rattle.std.proofs.Common.{sym, ap, ◌∙◌, subst, mod-eq_of_lt, arith, length-drop, drop-cons, get_or-drop, eq-eqb, ne_eqb, eqb-true}
use Rattle.std.proofs.Math.Nat.{div-eq_of_lt, mod-add-div', add-mul-mod_self_right, add-mul-div_right}
use Rattle.std.proofs.lemmas.List.Edits.{sets}
use Rattle.std.proofs.lemmas.Bool.{eqb-false}
use Rattle.geometry.specs.declared.Part.{Part}
use Rattle.geometry.specs.declared.Part.TheVariants.{FullBottom, FullTop, BenchBottom, BenchTop}
use Rattle.geometry.specs.Blocks.{part_numbered}
use Rattle.protection.specs.Words.{bit, spare_zero, all_protected}
use Rattle.semantics.specs.declared.Mode.{Mode}
use Rattle.semantics.specs.declared.Mode.TheVariants.{Array, Status, Signature, Query}
use Rattle.semantics.specs.declared.Bank.{Bank}
use Rattle.semantics.specs.declared.Flags.{Flags}
use Rattle.semantics.specs.declared.Setup.{Setup}
use Rattle.semantics.specs.declared.Setup.TheVariants as setup
use Rattle.semantics.specs.declared.Running.{Running}
use Rattle.semantics.specs.declared.Running.TheVariants as running
use Rattle.semantics.specs.declared.SuspendedProgram.{SuspendedProgram}
use Rattle.semantics.specs.declared.SuspendedProgram.TheVariants as program
use Rattle.semantics.specs.declared.SuspendedErase.{SuspendedErase}
use Rattle.semantics.specs.declared.State.{State}
use Rattle.semantics.specs.State.{activity, flags_of, empty_buffer, power_up}
use Rattle.semantics.specs.Tabulate.{tabulate, length_tabulate, word_tabulate, tabulate_of, tabulate_is}
use Rattle.semantics.specs.Reading.{bit_if}
use Rattle.semantics.specs.WellFormed.{running_alone, program_alone, erase_alone, setup_fits, running_fits, program_fits}
use Rattle.semantics.specs.WellFormed.{suspended_erase_fits, all_fit, running_apart, program_apart, apart, activity_formed}
use Rattle.semantics.specs.WellFormed.{well_formed}
use Rattle.semantics.specs.Register.{is_reserved}
use Rattle.semantics.proofs.Refusals.{reserved_unformed}
use Rattle.saved.specs.declared.Four.{Four}
use Rattle.saved.specs.Saved.{part_number, mode_number, mode_numbered, bank_number, bank_numbered, flag_numbered, half}
use Rattle.saved.specs.Saved.{setup_numbers, setup_of, running_numbers, running_of, program_numbers, program_of}
use Rattle.saved.specs.Saved.{erase_numbers, erase_of, flag_numbers, joined, of_halves, bytes, from_byte, first}
use Rattle.saved.specs.Saved.{modes_word, modes_in, bank_words, activity_words, activity_of, flags_in, rest_of, packed}
use Rattle.saved.specs.Saved.{lane, packed_at, lane_at, buffer_words, buffer_in, saved_of, loaded_of, same, is_saved}
use Rattle.saved.specs.Saved.{no_state, state_of, put_into}

-- ---- lists

pub first_all : (n : ℕ) (l : List ℕ) → length l ≡ n → first n l ≡ l
first_all n l h = sym (tabulate_is n (λ k. get_or l k 0) l h (λ k q. refl))

same_refl : (l : List ℕ) → same l l ≡ true
unfolding same
same_refl [] = refl
same_refl (x ∷ l) = rw (eq-eqb x x refl) (same_refl l)

same_true : (k l : List ℕ) → same k l ≡ true → k ≡ l
unfolding same
same_true [] [] h = refl
same_true [] (y ∷ l) h = cc
same_true (x ∷ k) [] h = cc
same_true (x ∷ k) (y ∷ l) h = go (eqb x y) refl h (same_true k l)
  where
    go : (t : Bool) → eqb x y ≡ t → (t && same k l) ≡ true → (same k l ≡ true → k ≡ l) → x ∷ k ≡ y ∷ l
    go true e h f = let p = eqb-true x y e in let q = f h in cc
    go false e h f = cc

-- ---- stores

-- one store more of a run of them
pub sets_next : {A : Type 0} (d : A) (vs l : List A) (i k : ℕ) → k < length vs → set (sets l i (take k vs)) (i + k) (get_or vs k d) ≡ sets l i (take (suc k) vs)
sets_next d [] l i k h = absurd (omega arith)
sets_next d (v ∷ vs) l i zero h = let e : i + 0 ≡ i = omega arith in rw e
sets_next d (v ∷ vs) l i (suc k) h = let e : i + suc k ≡ suc i + k = omega arith in rw e (sets_next d vs (set l i v) (suc i) k (omega arith))

-- the same for a list of f at each number: x is the next
pub tabulate_next : {A : Type 0} (d : A) (n : ℕ) (f : ℕ → A) (l now : List A) (i k at next : ℕ) (x : A) → k < n → at ≡ i + k → next ≡ k + 1
    → now ≡ sets l i (take k (tabulate n f)) → x ≡ f k → set now at x ≡ sets l i (take next (tabulate n f))
tabulate_next d n f l now i k at next x h a b p q =
    let e : get_or (tabulate n f) k d ≡ x = word_tabulate n f k d h ∙ sym q in
    let c : next ≡ suc k = omega arith in
    rw (a, c, p, ← e) (sets_next d (tabulate n f) l i k (omega (arith, length_tabulate n f)))

-- room for 25 words after the stores of a state's words, group by group
pub stored : (s : State) (l₀ l₁ l₂ l₃ l₄ : List ℕ) (n : ℕ) → length l₀ ≡ 25 → n ≡ part_number s.part → l₁ ≡ sets (set l₀ 0 n) 1 (bank_words s.banks) → l₂ ≡ sets l₁ 3 (activity_words s.control.activity)
    → l₃ ≡ sets l₂ 11 (rest_of s) → l₄ ≡ sets l₃ 17 (buffer_words s.buffer) → l₄ ≡ put_into l₀ (saved_of s)
unfolding saved_of put_into tabulate
stored s l₀ l₁ l₂ l₃ l₄ n h p q r t u =
    u ∙ ap (λ (l : List ℕ). sets l 17 (buffer_words s.buffer)) (t ∙ ap (λ (l : List ℕ). sets l 11 (rest_of s)) (r ∙ ap (λ (l : List ℕ). sets l 3 (activity_words s.control.activity)) q)) ∙ ap (all l₀) p
    ∙ subst (λ (l : List ℕ). all l (part_number s.part) ≡ saved_of s) (first_all 25 l₀ h) refl ∙ rw (eq-eqb (length l₀) 25 h)
  where
    all : List ℕ → ℕ → List ℕ
    all l x = sets (sets (sets (sets (set l 0 x) 1 (bank_words s.banks)) 3 (activity_words s.control.activity)) 11 (rest_of s)) 17 (buffer_words s.buffer)

-- ---- a field and back

part_back : (p : Part) → part_numbered (part_number p) ≡ p
part_back FullBottom = refl
part_back FullTop = refl
part_back BenchBottom = refl
part_back BenchTop = refl

bank_back : (b : Bank) → bank_numbered (bank_number b) ≡ b
bank_back b = λ j. record { mode = go b.mode j }
  where
    go : (m : Mode) → mode_numbered (mode_number m % 4) ≡ m
    go Array = refl
    go Status = refl
    go Signature = refl
    go Query = refl

flag_back : (b : Bool) → flag_numbered (bit_if b 1) ≡ b
flag_back true = refl
flag_back false = refl

pub bank_small : (b : Bank) → bank_number b < 4
bank_small b = go b.mode
  where
    go : (m : Mode) → mode_number m < 4
    go Array = omega arith
    go Status = omega arith
    go Signature = omega arith
    go Query = omega arith

pub bit_small : (b : Bool) → bit_if b 1 < 2
bit_small true = omega arith
bit_small false = omega arith

-- ---- two numbers in one

first_back : (m x y : ℕ) → x < m → joined m x y % m ≡ x
first_back m x y h = add-mul-mod_self_right x y m ∙ mod-eq_of_lt h

second_back : (m x y : ℕ) → x < m → joined m x y / m ≡ y
second_back m x y h = add-mul-div_right x y (omega arith) ∙ rw (div-eq_of_lt h) (omega arith)

-- a number is two others in one where its rest and its quotient are these
pub joined_eq : (m w x y : ℕ) → x < m → eqb w (joined m x y) ≡ (eqb (w % m) x && eqb (w / m) y)
joined_eq m w x y h = go (eqb (w % m) x) (eqb (w / m) y) refl refl
  where
    go : (s t : Bool) → eqb (w % m) x ≡ s → eqb (w / m) y ≡ t → eqb w (joined m x y) ≡ (s && t)
    go true true p q = eq-eqb w (joined m x y) (sym (mod-add-div' w m) ∙ (λ j. joined m (eqb-true (w % m) x p j) (eqb-true (w / m) y q j)))
    go true false p q = ne_eqb w (joined m x y) (λ e. eqb-false (w / m) y q (ap (λ (v : ℕ). v / m) e ∙ second_back m x y h))
    go false t p q = ne_eqb w (joined m x y) (λ e. eqb-false (w % m) x p (ap (λ (v : ℕ). v % m) e ∙ first_back m x y h))

-- ---- bytes

-- each number is a byte
abbrev pub Bytes : List ℕ → Type 0
Bytes [] = Unit {0}
Bytes (x ∷ l) = (x < 256) × Bytes l

bytes_tabulate : (n : ℕ) (f : ℕ → ℕ) → ((k : ℕ) → f k < 256) → Bytes (tabulate n f)
unfolding tabulate
bytes_tabulate zero f h = tt
bytes_tabulate (suc n) f h = (h 0, bytes_tabulate n (λ k. f (suc k)) (λ k. h (suc k)))

-- n bytes are so small
pub bytes_small : (n : ℕ) (l : List ℕ) → length l ≤ n → Bytes l → bytes l < 256 ^ n
bytes_small zero [] h b = omega arith
bytes_small zero (x ∷ l) h b = absurd (omega arith)
bytes_small (suc n) [] h b = omega (arith, bytes_small n [] (omega arith) tt)
bytes_small (suc n) (x ∷ l) h b = omega (arith, bytes_small n l (omega arith) b.1, b.0)

byte_back : (l : List ℕ) → Bytes l → (k : ℕ) → from_byte k (bytes l) % 256 ≡ get_or l k 0
byte_back [] b zero = refl
byte_back [] b (suc k) = byte_back [] b k
byte_back (x ∷ l) b zero = first_back 256 x (bytes l) b.0
byte_back (x ∷ l) b (suc k) = rw (second_back 256 x (bytes l) b.0) (byte_back l b.1 k)

pub from_next : (k w : ℕ) → from_byte (suc k) w ≡ from_byte k w / 256
from_next zero w = refl
from_next (suc k) w = from_next k (w / 256)

bytes_drop : (i : ℕ) (l : List ℕ) → Bytes l → Bytes (drop i l)
bytes_drop zero l b = b
bytes_drop (suc i) [] b = tt
bytes_drop (suc i) (x ∷ l) b = bytes_drop i l b.1

-- ---- the modes of eight banks

module _ (l : List Bank) (i : ℕ) where
  abbrev pub bank : ℕ → Bank
  bank k = get_or l (i + k) (record { mode = Array })

  abbrev pub mode_numbers : List ℕ
  mode_numbers = tabulate 8 (λ k. bank_number (bank k))

  modes_bytes : Bytes mode_numbers
  modes_bytes = bytes_tabulate 8 (λ k. bank_number (bank k)) (λ k. omega (arith, bank_small (bank k)))

  modes_back : modes_in (modes_word l i) ≡ tabulate 8 bank
  modes_back =
      tabulate_of (record { mode = Array }) 8 bank (modes_in (modes_word l i)) (length_tabulate 8 (λ k. bank_numbered (from_byte k (modes_word l i))))
      (λ k q. word_tabulate 8 (λ k. bank_numbered (from_byte k (modes_word l i))) k (record { mode = Array }) q ∙ byte (from_byte k (modes_word l i)) ∙ ap bank_numbered (byte_back mode_numbers modes_bytes k ∙ word_tabulate 8 (λ k. bank_number (bank k)) k 0 q) ∙ bank_back (bank k))
    where
      byte : (w : ℕ) → bank_numbered w ≡ bank_numbered (w % 256)
      byte w = let e : w % 4 ≡ w % 256 % 4 = omega arith in rw e

  -- for the loop from the highest bank down: seven bytes leave room for one more
  pub modes_small : (k : ℕ) → 0 < k → bytes (drop k mode_numbers) < 72057594037927936
  modes_small k h = bytes_small 7 (drop k mode_numbers) (rw length-drop (omega (arith, length_tabulate 8 (λ k. bank_number (bank k))))) (bytes_drop k mode_numbers modes_bytes)

  pub modes_next : (k x w : ℕ) → k < 8 → w ≡ bytes (drop (suc k) mode_numbers) → x ≡ bank_number (bank k) → joined 256 x w ≡ bytes (drop k mode_numbers)
  modes_next k x w h p q =
      rw (drop-cons mode_numbers k 0 (omega (arith, length_tabulate 8 (λ k. bank_number (bank k)))))
      (λ j. joined 256 ((q ∙ sym (word_tabulate 8 (λ k. bank_number (bank k)) k 0 h)) j) (p j))

banks_back : (l : List Bank) → length l ≡ 16 → modes_in (modes_word l 0) ++ modes_in (modes_word l 8) ≡ l
unfolding tabulate
banks_back l h = (λ j. modes_back l 0 j ++ modes_back l 8 j) ∙ sym (tabulate_of (record { mode = Array }) 16 (λ k. get_or l k (record { mode = Array })) l h (λ k q. refl))

-- ---- the flags

flags_bytes : (f : Flags) → Bytes (flag_numbers f)
flags_bytes f = (byte f.sr5, (byte f.sr4, (byte f.sr3, (byte f.sr1, tt))))
  where
    byte : (b : Bool) → bit_if b 1 < 256
    byte b = omega (arith, bit_small b)

flags_back : (f : Flags) → flags_in (bytes (flag_numbers f)) ≡ f
flags_back f = λ j. flags_of (at 0 f.sr5 refl j) (at 1 f.sr4 refl j) (at 2 f.sr3 refl j) (at 3 f.sr1 refl j)
  where
    byte : (w : ℕ) → flag_numbered w ≡ flag_numbered (w % 256)
    byte w = let e : w % 2 ≡ w % 256 % 2 = omega arith in rw e

    at : (k : ℕ) (b : Bool) → get_or (flag_numbers f) k 0 ≡ bit_if b 1 → flag_numbered (from_byte k (bytes (flag_numbers f))) ≡ b
    at k b e = byte (from_byte k (bytes (flag_numbers f))) ∙ ap flag_numbered (byte_back (flag_numbers f) (flags_bytes f) k ∙ e) ∙ flag_back b

pub flags_small : (f : Flags) → bytes (flag_numbers f) < half
flags_small f = bytes_small 4 (flag_numbers f) (omega arith) (flags_bytes f)

-- ---- the buffer

-- four words are got back
lanes : (a b c d : ℕ) → a < 65536 → b < 65536 → c < 65536
    → (lane (packed a b c d) 0 ≡ a) × (lane (packed a b c d) 1 ≡ b) × (lane (packed a b c d) 2 ≡ c) × (lane (packed a b c d) 3 ≡ d)
lanes a b c d h k m = (omega arith, omega arith, omega arith, omega arith)

-- the four of a word are that word
pub packed_lanes : (w : ℕ) → packed (lane w 0) (lane w 1) (lane w 2) (lane w 3) ≡ w
packed_lanes w = omega arith

buffer_back : (bs : List ℕ) → length bs ≡ 32 → ((k : ℕ) → get_or bs k 0 < 65536) → tabulate 32 (lane_at (buffer_words bs)) ≡ bs
unfolding tabulate
buffer_back bs h f = (λ i. four 0 i ++ (four 1 i ++ (four 2 i ++ (four 3 i ++ (four 4 i ++ (four 5 i ++ (four 6 i ++ four 7 i))))))) ∙ first_all 32 bs h
  where
    four : (j : ℕ) → tabulate 4 (lane (packed_at bs j)) ≡ get_or bs (4 * j) 0 ∷ get_or bs (4 * j + 1) 0 ∷ get_or bs (4 * j + 2) 0 ∷ get_or bs (4 * j + 3) 0 ∷ []
    four j =
        let p = lanes (get_or bs (4 * j) 0) (get_or bs (4 * j + 1) 0) (get_or bs (4 * j + 2) 0) (get_or bs (4 * j + 3) 0) (f _) (f _) (f _) in
        λ i. p.0 i ∷ p.1 i ∷ p.2 i ∷ p.3 i ∷ []

-- for the loop that takes four words of the buffer from each saved word
pub taken_more : (ws bs l : List ℕ) (j w : ℕ) → j < 8 → w ≡ get_or ws (17 + j) 0 → bs ≡ sets l 0 (take (4 * j) (buffer_in ws))
    → set (set (set (set bs (4 * j) (lane w 0)) (4 * j + 1) (lane w 1)) (4 * j + 2) (lane w 2)) (4 * j + 3) (lane w 3) ≡ sets l 0 (take (4 * (j + 1)) (buffer_in ws))
taken_more ws bs l j w h q t =
    one 3 (4 * j + 3) (4 * (j + 1)) refl (omega arith) (omega arith)
    (one 2 (4 * j + 2) (4 * j + 3) refl (omega arith) (omega arith)
    (one 1 (4 * j + 1) (4 * j + 2) refl (omega arith) (omega arith)
    (one 0 (4 * j) (4 * j + 1) (omega arith) (omega arith) refl t)))
  where
    one : (k i next : ℕ) → i ≡ 4 * j + k → k < 4 → next ≡ i + 1 → {now : List ℕ} → now ≡ sets l 0 (take i (buffer_in ws)) → set now i (lane w k) ≡ sets l 0 (take next (buffer_in ws))
    one k i next e p n {now} g =
        let d : i / 4 ≡ j = omega arith in
        let m : i % 4 ≡ k = omega arith in
        tabulate_next 0 32 (lane_at (drop 17 ws)) l now 0 i i next (lane w k) (omega arith) (omega arith) n g (rw (d, m, get_or-drop) (ap (λ (x : ℕ). lane x k) q))

-- ---- what is under way

-- its numbers fit their types
abbrev pub SetupFitting : Setup → Type 0
SetupFitting setup.Nothing = Unit {0}
SetupFitting setup.Program = Unit {0}
SetupFitting setup.Erase = Unit {0}
SetupFitting setup.Lock = Unit {0}
SetupFitting (setup.BufferCount b) = b < half
SetupFitting (setup.BufferFirst b n) = (b < half) × (n < half)
SetupFitting (setup.BufferWords l n k) = (l < half) × (n < half) × (k < half)

abbrev pub RunningFitting : Running → Type 0
RunningFitting running.Idle = Unit {0}
RunningFitting (running.Program l w) = (l < half) × (w < 65536)
RunningFitting (running.Erase b n) = (b < half) × (n < half)
RunningFitting (running.Buffer l n d) = (l < half) × (n < half) × (d < half)

abbrev pub ProgramFitting : SuspendedProgram → Type 0
ProgramFitting program.Nothing = Unit {0}
ProgramFitting (program.Program l w) = (l < half) × (w < 65536)
ProgramFitting (program.Buffer l n d) = (l < half) × (n < half) × (d < half)

abbrev pub EraseFitting : Option SuspendedErase → Type 0
EraseFitting None = Unit {0}
EraseFitting (Some e) = (e.block < half) × (e.done < half)

-- what every state that the code holds has, by its types
pub record Fitting (s : State) : Type 0 where
  pub banks : length s.banks ≡ 16
  pub setup : SetupFitting s.control.activity.setup
  pub running : RunningFitting s.control.activity.running
  pub program : ProgramFitting s.control.activity.program
  pub erase : EraseFitting s.control.activity.erase
  pub unprotected : length s.unprotected ≡ 5
  pub configuration : s.control.configuration < 65536
  pub places : length s.buffer ≡ 32
  pub buffer : (k : ℕ) → get_or s.buffer k 0 < 65536

-- ---- four numbers in two words

-- numbers that fit are got back
four_back : (k a b c : ℕ) → k < half → a < half → b < half → c < half → of_halves (joined half k a) (joined half b c) ≡ (k, a, b, c)
four_back k a b c p q r s = λ j. (low k a p j, high k a p q j, low b c r j, high b c r s j)
  where
    low : (x y : ℕ) → x < half → joined half x y % half ≡ x
    low = first_back half

    high : (x y : ℕ) → x < half → y < half → joined half x y / half % half ≡ y
    high x y h k = ap (λ (n : ℕ). n % half) (second_back half x y h) ∙ mod-eq_of_lt k

-- and so is the value that they are made of
module _ {A : Type 0} (numbers : A → Four) (of : Four → A) where
  abbrev Back : A → Type 0
  Back s = of (of_halves (joined half (numbers s).0 (numbers s).1) (joined half (numbers s).2 (numbers s).3)) ≡ s

setup_back : (s : Setup) → SetupFitting s → Back setup_numbers setup_of s
setup_back setup.Nothing h = refl
setup_back setup.Program h = refl
setup_back setup.Erase h = refl
setup_back setup.Lock h = refl
setup_back (setup.BufferCount b) h = ap setup_of (four_back 4 b 0 0 (omega arith) h (omega arith) (omega arith))
setup_back (setup.BufferFirst b n) h = ap setup_of (four_back 5 b n 0 (omega arith) h.0 h.1 (omega arith))
setup_back (setup.BufferWords l n k) h = ap setup_of (four_back 6 l n k (omega arith) h.0 h.1 h.2)

running_back : (r : Running) → RunningFitting r → Back running_numbers running_of r
running_back running.Idle h = refl
running_back (running.Program l w) h = ap running_of (four_back 1 l w 0 (omega arith) h.0 (omega (arith, h.1)) (omega arith)) ∙ rw (mod-eq_of_lt h.1)
running_back (running.Erase b n) h = ap running_of (four_back 2 b n 0 (omega arith) h.0 h.1 (omega arith))
running_back (running.Buffer l n d) h = ap running_of (four_back 3 l n d (omega arith) h.0 h.1 h.2)

program_back : (p : SuspendedProgram) → ProgramFitting p → Back program_numbers program_of p
program_back program.Nothing h = refl
program_back (program.Program l w) h = ap program_of (four_back 1 l w 0 (omega arith) h.0 (omega (arith, h.1)) (omega arith)) ∙ rw (mod-eq_of_lt h.1)
program_back (program.Buffer l n d) h = ap program_of (four_back 2 l n d (omega arith) h.0 h.1 h.2)

erase_back : (e : Option SuspendedErase) → EraseFitting e → Back erase_numbers erase_of e
erase_back None h = refl
erase_back (Some e) h = ap erase_of (four_back 1 e.block e.done 0 (omega arith) h.0 h.1 (omega arith))

-- ---- the whole state

activity_back : (s : State) → Fitting s → activity_of (saved_of s) ≡ s.control.activity
unfolding saved_of tabulate
activity_back s h =
    let a = s.control.activity in
    λ j. activity (setup_back a.setup h.setup j) (running_back a.running h.running j) (program_back a.program h.program j) (erase_back a.erase h.erase j)

-- a state is got back from its words
pub loaded_saved : (s : State) → Fitting s → loaded_of (saved_of s) ≡ s
unfolding saved_of loaded_of tabulate
loaded_saved s h =
    let k = s.control in
    let b = bit_if k.supply 1 in
    let low = first_back half (bytes (flag_numbers k.flags)) (joined 65536 k.configuration b) (flags_small k.flags) in
    let high = second_back half (bytes (flag_numbers k.flags)) (joined 65536 k.configuration b) (flags_small k.flags) in
    λ j. record {
      part = part_back s.part j;
      banks = banks_back s.banks h.banks j;
      unprotected = first_all 5 s.unprotected h.unprotected j;
      control = record {
        activity = activity_back s h j;
        flags = (ap flags_in low ∙ flags_back k.flags) j;
        configuration = (ap (λ (w : ℕ). w % 65536) high ∙ first_back 65536 k.configuration b h.configuration) j;
        supply = (ap (λ (w : ℕ). flag_numbered (w / 65536)) high ∙ ap flag_numbered (second_back 65536 k.configuration b h.configuration) ∙ flag_back k.supply) j;
      };
      buffer = buffer_back s.buffer h.places h.buffer j;
    }

-- so its words are a saved state, and say it
pub saved_is : (s : State) → Fitting s → is_saved (saved_of s) ≡ true
unfolding is_saved
saved_is s h = rw (loaded_saved s h) (same_refl (saved_of s))

pub state_back : (s : State) → Fitting s → state_of (saved_of s) ≡ s
unfolding state_of
state_back s h = rw (saved_is s h) (loaded_saved s h)

-- words that are a saved state are those of the state that they say
pub saved_back : (ws : List ℕ) → is_saved ws ≡ true → saved_of (state_of ws) ≡ ws
unfolding state_of is_saved
saved_back ws h = rw h (sym (same_true ws (saved_of (loaded_of ws)) h))

-- and are 25
pub saved_length : (ws : List ℕ) → is_saved ws ≡ true → length ws ≡ 25
unfolding is_saved saved_of tabulate
saved_length ws h = ap length (same_true ws (saved_of (loaded_of ws)) h)

-- words that are none say a state that is not well formed
pub unsaved_refused : (ws : List ℕ) → is_saved ws ≡ false → well_formed (state_of ws) ≡ false
unfolding state_of no_state power_up running_alone program_alone erase_alone setup_fits running_fits program_fits suspended_erase_fits all_fit running_apart program_apart apart activity_formed well_formed spare_zero
unsaved_refused ws h = rw h

-- and so do words whose register has a reserved bit set, in bits 32 to 47 of word 11
pub reserved_words : (ws : List ℕ) (i : ℕ) → is_reserved i ≡ true → bit (get_or ws 11 0 / half % 65536) i ≡ 1 → well_formed (state_of ws) ≡ false
unfolding state_of loaded_of
reserved_words ws i e h = go (is_saved ws) refl
  where
    go : (b : Bool) → is_saved ws ≡ b → well_formed (state_of ws) ≡ false
    go true q = rw q (reserved_unformed (loaded_of ws) i e h)
    go false q = unsaved_refused ws q

zeros : (n k : ℕ) → ◌≡◌ {A = ℕ} (get_or (replicate n 0) k 0) 0
zeros zero k = refl
zeros (suc n) zero = refl
zeros (suc n) (suc k) = zeros n k

-- power-up is such a state
pub power_up_fitting : (p : Part) → Fitting (power_up p)
unfolding power_up all_protected empty_buffer
power_up_fitting p = record { banks = refl; setup = tt; running = tt; program = tt; erase = tt; unprotected = refl; configuration = omega arith; places = refl; buffer = λ k. omega (arith, zeros 32 k) }
