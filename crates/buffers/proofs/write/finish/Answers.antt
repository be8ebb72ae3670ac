use Rattle.std.proofs.Common.{refl}
use Rattle.std.proofs.lemmas.Bool.{false≢true}
use Rattle.buffers.proofs.Finishes.{finish_is, finish_no}
use Rattle.buffers.proofs.write.finish.Goals as goal

pub returns-then-not-fits : goal.returns-then-not-fits
returns-then-not-fits c = finish_no _ _ _ _ _ (λ f. absurd (false≢true (c.if-not-fits.ensures.1 f))) c.said.ensures

pub returns : goal.returns
returns c = finish_is _ _ _ _ _ _ (c.if-not-fits.ensures.0 refl) c.put_file-len.ensures.out_after c.put_file-len.ensures.value
