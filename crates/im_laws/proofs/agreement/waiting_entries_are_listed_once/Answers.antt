use Rattle.im_laws.proofs.WaiterLemmas.{listed-WaitsAt, listed_once, waiting-WaitsAt, WaitsAt-listed, WaitsAt-one}
use Rattle.im_laws.proofs.agreement.waiting_entries_are_listed_once.Goals as goal

pub returns-clause-listed : goal.returns-clause-listed
returns-clause-listed c = λ m agrees who a. (listed-WaitsAt m agrees who a, WaitsAt-listed m agrees who a)

pub returns-clause-once : goal.returns-clause-once
returns-clause-once c = listed_once

pub returns-clause-in_one_list : goal.returns-clause-in_one_list
returns-clause-in_one_list c = WaitsAt-one

pub returns-clause-somewhere : goal.returns-clause-somewhere
returns-clause-somewhere c = waiting-WaitsAt
