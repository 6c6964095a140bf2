-- The laws that the functions' proofs cite, and the theorems whose statements stand in specs/Promises.antt: LengthLaws (WaysMakeRing),
-- RateLaws (EveryMetreOnce, RoundedUp), Promised (LongerNeverCheaper, OrdersPay, GreatestCharge).
pub mod LengthLaws
pub mod DistanceLaws
pub mod RateLaws
pub mod ChargeLaws
pub mod Promised
