-- The number falls with each call.
use Rattle.layout_explaining.proofs.sentences.+put_long.Given as goal

abbrev pub decreases-put_long : goal.decreases-put_long
decreases-put_long l = l.n
