use Rattle.std.proofs.Common.{◌+◌, ◌*◌}
use Rattle.reader.proofs.WalkLaws.{OnWay}
use Rattle.reader.proofs.reader.Reader.+read_below_read_ops.Given as goal

abbrev pub decreases-read_below : goal.decreases-read_below
decreases-read_below l = l.w.level * 2 + 2

abbrev pub decreases-read_ops : goal.decreases-read_ops
decreases-read_ops l = l.from.level * 2 + 1

abbrev pub invariant-read_ops-loop-w : goal.invariant-read_ops-loop-w
invariant-read_ops-loop-w l = OnWay l.self.bytes.now l.self.types.now l.self.end l.initial.w l.w

abbrev pub decreases-read_ops-loop-w : goal.decreases-read_ops-loop-w
decreases-read_ops-loop-w l = l.w.level * 256 + l.w.left
