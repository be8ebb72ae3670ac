-- The parts of an opened sequent.
use Prim.Native.Nat.{ℕ, ◌≤◌}
use mathlib.Core.Path.{◌≡◌, ◌∙◌}
use mathlib.Core.List.{List}
use native.Mathlib.Omega.{arith}
use lib.ListN.{take, drop}
use Rattle.formula.specs.Tree.{encode}
use Rattle.desk.specs.Mirror.Bytes.{Stand}
use Rattle.desk.specs.declared.hypotheses.Hypotheses.{Hypotheses}
use Rattle.sequent.specs.declared.Opened.{Opened}
use Rattle.acts.specs.Mirror.Answering.{OpenIs}
use Rattle.buffers.proofs.Room.{sequent_long}

module _ (o : Opened) (O : OpenIs o) where
  -- the types
  pub types_there : (types : List ℕ) → types ≡ take o.view.identifiers (drop 8 o.bytes.now) → types ≡ O.sequent.types
  types_there types e = let H = O.held in e ∙ rw H.identifiers_are H.types_are

  -- the goal
  pub goal_there : (g : List ℕ) → g ≡ drop o.view.end o.bytes.now → g ≡ encode O.sequent.goal
  goal_there g e = e ∙ O.goal_there

  -- the hypotheses
  pub stand_there : (h : Hypotheses) → h.bytes.now ≡ o.bytes.now → h.places.now ≡ o.places → h.view ≡ o.view → Stand h O.sequent.types O.sequent.hypotheses
  stand_there h b p v = rw (b, p, v) O.held

  pub opened_short : o.view.end ≤ 60000
  opened_short = omega (arith, O.held.end_is, sequent_long O.sequent, O.accepted.short)
