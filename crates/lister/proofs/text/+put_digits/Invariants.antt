-- By recursion on the digits that may still be written, which is the measure.
use Rattle.lister.proofs.text.+put_digits.Given as goal

abbrev pub decreases-put_digits : goal.decreases-put_digits
decreases-put_digits l = l.most
