-- The rule, the interval theorem, its reading on the ring, and the turns of the loops.
pub mod Basics
pub mod Picking
pub mod BestTurns
pub mod ColoursInUse
pub mod EndCounts
pub mod Intervals
pub mod IntervalsOptimal
pub mod IntervalsFeasible
pub mod Orders
pub mod PlainLinks
pub mod ChainPlans
pub mod ChainOptimal
pub mod BucketLists
pub mod Taking
pub mod Tables
