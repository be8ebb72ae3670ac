use Rattle.reader.proofs.shape.+same_shape.Given as goal

abbrev pub decreases-same_shape : goal.decreases-same_shape
decreases-same_shape l = l.level
