use Rattle.std.proofs.Common.{refl, arith}
use Rattle.std.proofs.lemmas.Result.{err_from_is_err_and}
use Rattle.desk.proofs.Lists.{listing_in_order, listing_inside}
use Rattle.buffers.proofs.BufferLaws.{gone_none, gone_more, gone_stops, gone_all, gone_inside, gone_starts, gone_listing}
use Rattle.buffers.proofs.buffer.formulas.Goals as goal

pub loop-j-init : goal.loop-j-init
loop-j-init c = gone_none _ _ _ c.type_inv.b c.requires.b_nonempty

pub returns-in_err-p : goal.returns-in_err-p
returns-in_err-p c =
    let p = err_from_is_err_and c.from_residual.result c.from_residual.ensures.1 in
    rw (p.1, p.2) (gone_stops _ _ _ _ _ _ c.loop-j.invariant (omega arith) _ c.read_formula.ensures _ c.in_err-p.was)

pub loop-j-preserved : goal.loop-j-preserved
loop-j-preserved c = gone_more _ _ _ _ _ _ c.loop-j.invariant (omega arith) _ c.read_formula.ensures _ c.requires.n_bound c.in_ok-p.was

pub invariant_of-result : goal.invariant_of-result
invariant_of-result c =
    let l = gone_listing _ _ _ _ _ _ c.loop-j.invariant (omega arith) in
    record { few = c.requires.n_bound; in_order = listing_in_order _ _ _ _ l; inside = listing_inside _ _ _ _ l }

pub returns : goal.returns
returns c = record {
  bytes_are = refl;
  formulas = c.loop-j.invariant.trees;
  seen_are = gone_all _ _ _ _ _ _ c.loop-j.invariant (omega arith);
  so_many = refl;
  inside = gone_inside _ _ _ _ _ _ c.loop-j.invariant (omega arith);
  starts_are = gone_starts _ _ _ _ _ _ c.loop-j.invariant (omega arith);
  list_is = gone_listing _ _ _ _ _ _ c.loop-j.invariant (omega arith);
}
