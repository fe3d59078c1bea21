use Rattle.ftpp_top.proofs.CycleOfScript.{stands_first, follows_as_it_stands, follows_rejoined}
use Rattle.ftpp_top.proofs.script_laws.stands_first.Goals as goal

pub returns-clause-first : goal.returns-clause-first
returns-clause-first c = stands_first

pub returns-clause-calm : goal.returns-clause-calm
returns-clause-calm c = follows_as_it_stands

pub returns-clause-rejoined : goal.returns-clause-rejoined
returns-clause-rejoined c = follows_rejoined
