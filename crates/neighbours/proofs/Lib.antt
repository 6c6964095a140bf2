-- Words of the sets, the sets of the nodes, the sets while they are made, and what crosses by them.
pub mod WordLaws
pub mod NodeSetLaws
pub mod PrefixLaws
pub mod CrossingLaws
