-- The turns of the loop that grows the tree from one vertex of the queue.
use Prim.Native.Nat.{ℕ, ◌<◌}
use mathlib.Core.Path.{◌≡◌, sym, ◌∙◌}
use mathlib.Core.Bool.{Bool, true, false}
use mathlib.Core.List.{List}
use lib.ListN.{length, get_or}
use Rattle.ring.specs.declared.requests.Request.{Request}
use Rattle.sets.specs.Sets.{has}
use Rattle.neighbours.specs.Neighbours.{Neighbours}
use Rattle.blossom.specs.Internal.Labels.{Even}
use Rattle.blossom.specs.Internal.Rows.{Symmetric}
use Rattle.matching.specs.declared.labels.VertexLabel.TheVariants as kind
use Rattle.matching.specs.declared.matchings.Search.{Search}
use Rattle.matching.specs.Internal.Adjacency.{adjacent}
use Rattle.matching.specs.Internal.Search.{SearchAt, SearchOutcome}
use Rattle.matching.specs.Internal.Steps.{Attachable, Attached}
use Rattle.matching.proofs.AroundLaws.{free_neighbour}
use Rattle.matching.proofs.ScanLaws.{queued_even, queued_inside, queued_labelled}
use Rattle.matching.proofs.AttachLaws.{attachable, search_attached, attached_queue}

-- x is at place g of the queue, and its neighbours are told
pub record Extending (R : List Request) (r : ℕ) (s : Search) (rows : List (List ℕ)) (h g x : ℕ) (around : List ℕ) : Type 0 where
  pub search : SearchAt R r s rows h
  pub neighbours : Neighbours R x around
  pub queued : g < s.clock
  pub current : x ≡ get_or s.queue g 0

module _ (R : List Request) (symmetric : Symmetric (adjacent R)) (r : ℕ) (s : Search) (rows : List (List ℕ)) (h g x : ℕ)
    (around : List ℕ) (E : Extending R r s rows h g x around) where
  even_labelled : get_or s.labels x kind.Free ≡ kind.Even
  even_labelled = rw E.current (queued_labelled R symmetric r s rows h E.search g E.queued)

  x_inside : x < length R
  x_inside = rw E.current (queued_inside R symmetric r s rows h E.search g E.queued)

  even : E.search.standing.state.label x ≡ Even
  even = rw E.current (queued_even R symmetric r s rows h E.search g E.queued)

  -- a free one of them
  module _ (y : ℕ) (inside : y < length R) (member : has around y ≡ true) (free : get_or s.labels y kind.Free ≡ kind.Free) where
    edge : adjacent R x y ≡ true
    edge = free_neighbour R s.labels around x y E.neighbours even_labelled x_inside inside member free

    pub extending_attachable : Attachable s rows x y
    extending_attachable = attachable R symmetric r s rows E.search.standing E.search.scanned E.search.searching x y even inside
        free edge

    module _ (t : Search) (after : List (List ℕ)) (done : Bool) (A : Attached s rows x y t after done) where
      pub extending_attached : SearchOutcome R r t after done (SearchAt R r t after h)
      extending_attached =
          search_attached R symmetric r s rows E.search.standing E.search.scanned E.search.searching x y even inside
          free edge h E.search.within E.search.scanned_is t after done A

      -- the tree has grown, and x is still there
      pub extending_grown : done ≡ false → Extending R r t after h g x around
      extending_grown d =
          let Q = attached_queue s rows x y t after done A g E.queued in
          record {
            search = extending_attached.going d;
            neighbours = E.neighbours;
            queued = Q.1;
            current = E.current ∙ sym Q.0;
          }
