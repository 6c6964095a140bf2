-- The colour is the rule's pick. Assumes nothing.
use native.Mathlib.Omega.{arith}
use Rattle.chain.proofs.ColoursInUse.{picked}
use Rattle.chain.proofs.rule.Colours.serve.Goals as goal

pub offset_bounds-self-inside-colour : goal.offset_bounds-self-inside-colour
offset_bounds-self-inside-colour c =
    omega (arith, (picked _ _ _ _ _ _ _ c.self.invariant c.self.told c.self.view_is c.requires c.in_ok-colour.ensures).below)

pub bounds-self-inside-colour : goal.bounds-self-inside-colour
bounds-self-inside-colour c = (picked _ _ _ _ _ _ _ c.self.invariant c.self.told c.self.view_is c.requires c.in_ok-colour.ensures).below

pub overflow_add-colour : goal.overflow_add-colour
overflow_add-colour c =
    omega (arith, (picked _ _ _ _ _ _ _ c.self.invariant c.self.told c.self.view_is c.requires c.in_ok-colour.ensures).below)

pub invariant_of-self : goal.invariant_of-self
invariant_of-self c = (
  c.self.invariant.0,
  rw c.max-self-inside.ensures
      (picked _ _ _ _ _ _ _ c.self.invariant c.self.told c.self.view_is c.requires c.in_ok-colour.ensures).in_use,
)

pub returns-clause-latest : goal.returns-clause-latest
returns-clause-latest c = (picked _ _ _ _ _ _ _ c.self.invariant c.self.told c.self.view_is c.requires c.in_ok-colour.ensures).left

pub returns-clause-below : goal.returns-clause-below
returns-clause-below c = (picked _ _ _ _ _ _ _ c.self.invariant c.self.told c.self.view_is c.requires c.in_ok-colour.ensures).below
