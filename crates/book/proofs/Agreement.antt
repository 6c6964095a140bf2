-- A history and a standing that say the same of an order, and how each event keeps it so.
use Prim.Native.Nat.{ℕ}
use mathlib.Core.Path.{◌≡◌, refl, sym, ◌∙◌, ap}
use mathlib.Core.Bool.{Bool, true, false, ◌||◌}
use mathlib.Core.List.{List, [], ◌∷◌}
use mathlib.Core.Logic.{inl, inr, ◌↔◌, ⊎_elim}
use Rattle.std.specs.Prelude.{Ok, Err}
use Rattle.ring.specs.declared.refusals.Refusal.TheVariants.{SerialNeverGiven, SerialRemoved, SerialLive, SerialConfirmed}
use Rattle.ring.proofs.Cases.{eqb_refl, impossible}
use Rattle.book.specs.declared.circuits.Circuit.{Circuit}
use Rattle.book.specs.Grants.{circuit_of}
use Rattle.book.specs.History.{Event, GrantAnswered, RemoveAnswered, ConfirmAnswered, Gives, gave, removes, confirms, Live, Pending}
use Rattle.book.specs.History.{was_given, was_removed, was_confirmed}
use Rattle.book.proofs.Standings.{Standing, Unknown, IsLive, IsPending, Gone, show_by, remove_by, confirm_by}

abbrev pub is_given : Standing → Bool
is_given Unknown = false
is_given (IsLive c) = true
is_given (IsPending c) = true
is_given Gone = true

abbrev pub is_removed : Standing → Bool
is_removed Unknown = false
is_removed (IsLive c) = false
is_removed (IsPending c) = true
is_removed Gone = true

abbrev pub is_confirmed : Standing → Bool
is_confirmed Unknown = false
is_confirmed (IsLive c) = false
is_confirmed (IsPending c) = false
is_confirmed Gone = true

pub record Agrees (h : List Event) (s : ℕ) (t : Standing) : Type 0 where
  pub lives : (c : Circuit) → ((t ≡ IsLive c) ↔ Live h s c)
  pub pends : (c : Circuit) → ((t ≡ IsPending c) ↔ Pending h s c)
  pub given : was_given h s ≡ is_given t
  pub removed : was_removed h s ≡ is_removed t
  pub confirmed : was_confirmed h s ≡ is_confirmed t

pub agrees_first : (s : ℕ) → Agrees [] s Unknown
agrees_first s = record {
  lives = λ c. (λ e. impossible (cc), λ p. absurd p);
  pends = λ c. (λ e. impossible (cc), λ p. absurd p);
  given = refl;
  removed = refl;
  confirmed = refl;
}

-- an event that says nothing of an order
pub record Passes (e : Event) (s : ℕ) : Type 0 where
  pub no_grant : gave e s ≡ false
  pub no_gift : (c : Circuit) → Gives e s c → ⊥
  pub no_removal : removes e s ≡ false
  pub no_confirmation : confirms e s ≡ false

module _ (h : List Event) (s : ℕ) where
  pub agrees_passed : (e : Event) (t : Standing) → Passes e s → Agrees h s t → Agrees (e ∷ h) s t
  agrees_passed e t p k = record {
    lives = λ c. (
      λ q. inr (p.no_removal, (k.lives c).0 q),
      λ x. ⊎_elim (λ y. absurd (p.no_gift c y)) (λ y. (k.lives c).1 y.1) x,
    );
    pends = λ c. (
      λ q. inr (p.no_confirmation, (k.pends c).0 q),
      λ x. ⊎_elim (λ y. impossible (sym y.0 ∙ p.no_removal)) (λ y. (k.pends c).1 y.1) x,
    );
    given = ap (λ (x : Bool). x || was_given h s) p.no_grant ∙ k.given;
    removed = ap (λ (x : Bool). x || was_removed h s) p.no_removal ∙ k.removed;
    confirmed = ap (λ (x : Bool). x || was_confirmed h s) p.no_confirmation ∙ k.confirmed;
  }

  pub agrees_granted : (x y way colour crew : ℕ) → Agrees h s Unknown
      → Agrees (GrantAnswered x y way colour crew (Ok s) ∷ h) s (IsLive (circuit_of s x y way colour crew))
  agrees_granted x y way colour crew k = record {
    lives = λ c. (
      λ q. inl (refl, cc q),
      λ z. ⊎_elim (λ p. ap IsLive p.1) (λ p. let q = (k.lives c).1 p.1 in impossible (cc q)) z,
    );
    pends = λ c. (
      λ q. impossible (cc q),
      λ z. ⊎_elim (λ p. impossible (sym p.0)) (λ p. let q = (k.pends c).1 p.1 in impossible (cc q)) z,
    );
    given = ap (λ (t : Bool). t || was_given h s) (eqb_refl s);
    removed = k.removed;
    confirmed = k.confirmed;
  }

  pub agrees_removed : (c : Circuit) → Agrees h s (IsLive c) → Agrees (RemoveAnswered s (Ok tt) ∷ h) s (IsPending c)
  agrees_removed c₀ k = record {
    lives = λ c. (λ q. impossible (cc q), λ z. ⊎_elim (λ p. absurd p) (λ p. impossible (sym (eqb_refl s) ∙ p.0)) z);
    pends = λ c. (
      λ q. inl (eqb_refl s, (k.lives c).0 (cc q)),
      λ z. ⊎_elim (λ p. let q = (k.lives c).1 p.1 in cc q) (λ p. let q = (k.pends c).1 p.1 in impossible (cc q)) z,
    );
    given = k.given;
    removed = ap (λ (t : Bool). t || was_removed h s) (eqb_refl s);
    confirmed = k.confirmed;
  }

  pub agrees_confirmed : (c : Circuit) → Agrees h s (IsPending c) → Agrees (ConfirmAnswered s (Ok tt) ∷ h) s Gone
  agrees_confirmed c₀ k = record {
    lives = λ c. (
      λ q. impossible (cc q),
      λ z. ⊎_elim (λ p. absurd p) (λ p. let q = (k.lives c).1 p.1 in impossible (cc q)) z,
    );
    pends = λ c. (
      λ q. impossible (cc q),
      λ z. ⊎_elim (λ p. impossible (sym p.0)) (λ p. impossible (sym (eqb_refl s) ∙ p.0)) z,
    );
    given = k.given;
    removed = k.removed;
    confirmed = ap (λ (t : Bool). t || was_confirmed h s) (eqb_refl s);
  }

-- ---- which answer a standing has

pub show_live : (t : Standing) (c : Circuit) → ((show_by t ≡ Ok c) ↔ (t ≡ IsLive c))
show_live Unknown c = (λ e. impossible (cc), λ e. impossible (cc))
show_live (IsLive d) c = (λ e. cc, λ e. cc)
show_live (IsPending d) c = (λ e. impossible (cc), λ e. impossible (cc))
show_live Gone c = (λ e. impossible (cc), λ e. impossible (cc))

pub show_unknown : (t : Standing) → ((show_by t ≡ Err SerialNeverGiven) ↔ (is_given t ≡ false))
show_unknown Unknown = (λ e. refl, λ e. refl)
show_unknown (IsLive c) = (λ e. impossible (cc), λ e. impossible e)
show_unknown (IsPending c) = (λ e. impossible (cc), λ e. impossible e)
show_unknown Gone = (λ e. impossible (cc), λ e. impossible e)

pub show_removed : (t : Standing) → ((show_by t ≡ Err SerialRemoved) ↔ ((is_given t ≡ true) × (is_removed t ≡ true)))
show_removed Unknown = (λ e. impossible (cc), λ p. impossible (sym p.0))
show_removed (IsLive c) = (λ e. impossible (cc), λ p. impossible (sym p.1))
show_removed (IsPending c) = (λ e. (refl, refl), λ p. refl)
show_removed Gone = (λ e. (refl, refl), λ p. refl)

pub remove_unknown : (t : Standing) → ((remove_by t ≡ Err SerialNeverGiven) ↔ (is_given t ≡ false))
remove_unknown Unknown = (λ e. refl, λ e. refl)
remove_unknown (IsLive c) = (λ e. impossible (cc), λ e. impossible e)
remove_unknown (IsPending c) = (λ e. impossible (cc), λ e. impossible e)
remove_unknown Gone = (λ e. impossible (cc), λ e. impossible e)

pub remove_removed : (t : Standing) → ((remove_by t ≡ Err SerialRemoved) ↔ ((is_given t ≡ true) × (is_removed t ≡ true)))
remove_removed Unknown = (λ e. impossible (cc), λ p. impossible (sym p.0))
remove_removed (IsLive c) = (λ e. impossible (cc), λ p. impossible (sym p.1))
remove_removed (IsPending c) = (λ e. (refl, refl), λ p. refl)
remove_removed Gone = (λ e. (refl, refl), λ p. refl)

pub confirm_unknown : (t : Standing) → ((confirm_by t ≡ Err SerialNeverGiven) ↔ (is_given t ≡ false))
confirm_unknown Unknown = (λ e. refl, λ e. refl)
confirm_unknown (IsLive c) = (λ e. impossible (cc), λ e. impossible e)
confirm_unknown (IsPending c) = (λ e. impossible (cc), λ e. impossible e)
confirm_unknown Gone = (λ e. impossible (cc), λ e. impossible e)

pub confirm_live : (t : Standing) → ((confirm_by t ≡ Err SerialLive) ↔ ((is_given t ≡ true) × (is_removed t ≡ false)))
confirm_live Unknown = (λ e. impossible (cc), λ p. impossible (sym p.0))
confirm_live (IsLive c) = (λ e. (refl, refl), λ p. refl)
confirm_live (IsPending c) = (λ e. impossible (cc), λ p. impossible p.1)
confirm_live Gone = (λ e. impossible (cc), λ p. impossible p.1)

pub confirm_confirmed : (t : Standing) → ((confirm_by t ≡ Err SerialConfirmed) ↔ (is_confirmed t ≡ true))
confirm_confirmed Unknown = (λ e. impossible (cc), λ e. impossible (sym e))
confirm_confirmed (IsLive c) = (λ e. impossible (cc), λ e. impossible (sym e))
confirm_confirmed (IsPending c) = (λ e. impossible (cc), λ e. impossible (sym e))
confirm_confirmed Gone = (λ e. refl, λ e. refl)
