-- The arrays of a search where none is under way.
use Rattle.std.specs.Prelude.{ℕ, List, replicate}
use Rattle.matching.specs.declared.labels.VertexLabel.{VertexLabel}
use Rattle.matching.specs.declared.matchings.Search.{Search}

-- between two searches: no parents, and nothing queued
abbrev pub rest : List ℕ → List VertexLabel → List ℕ → Search
rest mates labels bases = record {
  mates = mates;
  labels = labels;
  bases = bases;
  parents = replicate 512 0;
  queue = replicate 512 0;
  clock = 0;
}
