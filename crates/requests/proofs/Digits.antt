-- Numbers of at most 19 digits, read digit by digit.
use Rattle.std.proofs.Common.{◌≡◌, ℕ, suc, ◌+◌, ◌-◌, ◌*◌, ◌^◌, ◌<◌, ◌≤◌, Bool, true, false, List, length, get_or, take, refl, sym, ap, ◌∙◌, arith}
use Rattle.std.proofs.Math.Nat.{pow-suc, pow-le-pow_right}
use Rattle.std.proofs.lemmas.Bool.{true≢false}
use Rattle.std.proofs.lemmas.Str.{digit_value_digit}
use Rattle.std.proofs.lemmas.Bool.Decides.{nat_tests}
use Rattle.std.specs.List.{list_all}
use Rattle.std.specs.Char.{is_ascii_digit, digit_value}
use Rattle.std.specs.Str.Parse.{digits_value}
use Rattle.std.proofs.lemmas.Int.Digits.{digits_value_more}
use Rattle.std.proofs.lemmas.List.Folds.{list_all_at}

digit_at : (ds : List ℕ) (i : ℕ) → i < length ds → list_all is_ascii_digit ds ≡ true → is_ascii_digit (get_or ds i 0) ≡ true
digit_at ds i inside all = by (is_ascii_digit (get_or ds i 0)) refl
  where
    by : (t : Bool) → is_ascii_digit (get_or ds i 0) ≡ t → t ≡ true
    by true e = refl
    by false e = absurd (true≢false (sym all ∙ list_all_at is_ascii_digit ds i 0 inside e))

by_range : (b : ℕ) → is_ascii_digit b ≡ true → (48 ≤ b) × (b ≤ 57)
by_range b digit = grind (arith, nat_tests)

-- a digit's byte
pub digit_range : (ds : List ℕ) (i : ℕ) → i < length ds → list_all is_ascii_digit ds ≡ true → (48 ≤ get_or ds i 0) × (get_or ds i 0 ≤ 57)
digit_range ds i inside all = by_range (get_or ds i 0) (digit_at ds i inside all)

digit_is : (b : ℕ) → 48 ≤ b → b ≤ 57 → digit_value b ≡ b - 48
digit_is b low high = omega (arith, digit_value_digit b (low, high))

-- one more digit fits 64 bits
pub room : (n i d : ℕ) → i < 19 → n < 10 ^ i → d ≤ 9 → n * 10 + d < 10 ^ (i + 1)
room n i d few small digit = let same : i + 1 ≡ suc i = omega arith in
    let more = ap (λ k. 10 ^ k) same ∙ pow-suc 10 i in
    omega (arith, more)

pub fits : (i : ℕ) → i < 19 → 10 ^ (i + 1) ≤ 10000000000000000000
fits i few = pow-le-pow_right {n = 10} (omega arith) {i = i + 1} {j = 19} (omega arith)

-- the loop's step
pub step : (ds : List ℕ) (i n d : ℕ) → i < length ds → list_all is_ascii_digit ds ≡ true → n ≡ digits_value 10 (take i ds) → d ≡ get_or ds i 0 - 48 → n * 10 + d ≡ digits_value 10 (take (i + 1) ds)
step ds i n d inside all seen digit = let more = digits_value_more 10 ds i inside in let range = digit_range ds i inside all in let value = digit_is (get_or ds i 0) range.0 range.1 in omega (arith, more, value, range.0, range.1)
