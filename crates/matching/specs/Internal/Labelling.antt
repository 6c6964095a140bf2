-- What the loops over the labels do.
use Rattle.std.specs.Prelude.{ℕ, ◌<◌, ◌≡◌, List, length, get_or}
use Rattle.matching.specs.declared.labels.VertexLabel.{VertexLabel}
use Rattle.matching.specs.declared.labels.VertexLabel.TheVariants.{Free, Even, Odd, FrozenEven, FrozenOdd}

-- a label when a search begins: what is not frozen is free
abbrev pub unlabelled : VertexLabel → VertexLabel
unlabelled Free = Free
unlabelled Even = Free
unlabelled Odd = Free
unlabelled FrozenEven = FrozenEven
unlabelled FrozenOdd = FrozenOdd

-- a label when a search ends without an augmentation: its tree is frozen, even and odd vertices for good
abbrev pub frozen : VertexLabel → VertexLabel
frozen Free = Free
frozen Even = FrozenEven
frozen Odd = FrozenOdd
frozen FrozenEven = FrozenEven
frozen FrozenOdd = FrozenOdd

-- each of the first m labels is replaced by its image
pub record Relabelled (m : ℕ) (before after : List VertexLabel) (f : VertexLabel → VertexLabel) : Type 0 where
  pub same_length : length after ≡ length before
  pub at : (z : ℕ) → z < m → get_or after z Free ≡ f (get_or before z Free)
