use Rattle.std.proofs.Common.{◌≡◌, ◌+◌, ◌-◌, length, refl, arith, length-take-le}
use Rattle.buffers.specs.Mirror.WriteBytes.{file_on}
use Rattle.buffers.proofs.write.put_file.Goals as goal

pub returns-clause-out_after : goal.returns-clause-out_after
unfolding file_on
returns-clause-out_after c =
    let n : c.args.h.view.end + length c.args.goal.now - c.args.h.view.end ≡ length c.args.goal.now = omega arith in
    let m = length-take-le c.args.h.view.end c.args.h.bytes.now c.requires.on_desk in
    rw (n, c.copy-2.ensures.after, c.put_flags.ensures, c.put_header.ensures, c.copy.ensures.after, m) refl
