-- `op_list::list_network` meets its contract: the links are listed by node, the search gives the reported weight, and then the sides are listed.
-- Assumes nothing.
use Rattle.op_list.proofs.list_network.Goals as goal

pub invariant_of-list_searched : goal.invariant_of-list_searched
invariant_of-list_searched c = record { weight_is = c.search_listed-weight.ensures.says.weight }
