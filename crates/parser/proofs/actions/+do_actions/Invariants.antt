-- `do_actions`: none is left, the first one is the only one, it stops, or the others follow it.
use Rattle.parser.proofs.actions.+do_actions.Given as goal

abbrev pub decreases-do_actions : goal.decreases-do_actions
decreases-do_actions l = l.actions
