-- The cents for so many metres.
use Prim.Native.Nat.{ℕ, ◌+◌, ◌*◌, ◌/◌, ◌≤◌}
use native.Mathlib.Omega.{arith}
use native.Mathlib.Nat.{mul-le-mul_left, mul-le-mul_right}
use Rattle.charges.specs.declared.rates.Rates.{Rates}
use Rattle.charges.specs.Rates.{in_first, in_second, in_third, thousandths, cents}
use Rattle.charges.specs.Promises.{EveryMetreOnce, RoundedUp}

pub every_metre_once : EveryMetreOnce
every_metre_once m = omega arith

pub rounded_up : (rates : Rates) (m : ℕ) → RoundedUp rates m
unfolding cents
rounded_up rates m = record { enough = omega arith; least = omega arith }

-- no band of more metres has fewer
first_rise : (l m : ℕ) → l ≤ m → in_first l ≤ in_first m
first_rise l m h = omega arith

second_rise : (l m : ℕ) → l ≤ m → in_second l ≤ in_second m
second_rise l m h = omega arith

third_rise : (l m : ℕ) → l ≤ m → in_third l ≤ in_third m
third_rise l m h = omega arith

rounded_rise : {a b c x y z : ℕ} → a ≤ x → b ≤ y → c ≤ z → (a + b + c + 999) / 1000 ≤ (x + y + z + 999) / 1000
rounded_rise h k l = omega arith

-- more metres never cost less
pub cents_rise : (rates : Rates) (l m : ℕ) → l ≤ m → cents rates l ≤ cents rates m
unfolding cents thousandths
cents_rise rates l m h =
    rounded_rise (mul-le-mul_left rates.first (first_rise l m h)) (mul-le-mul_left rates.second (second_rise l m h))
    (mul-le-mul_left rates.third (third_rise l m h))

-- at the greatest rate every metre costs 100 cents
pub cents_most : (rates : Rates) (m : ℕ) → rates.first ≤ 100000 → rates.second ≤ 100000 → rates.third ≤ 100000 → cents rates m ≤ 100 * m
unfolding cents thousandths
cents_most rates m f s t =
    let first : rates.first * in_first m ≤ 100000 * in_first m = mul-le-mul_right (in_first m) f in
    let second : rates.second * in_second m ≤ 100000 * in_second m = mul-le-mul_right (in_second m) s in
    let third : rates.third * in_third m ≤ 100000 * in_third m = mul-le-mul_right (in_third m) t in
    omega arith
