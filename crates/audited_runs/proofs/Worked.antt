-- A run that the laws of traces speak of: two cycles on the built-in table of four elements, where an edit drops a frame.
use Rattle.std.proofs.Common.{[], ◌∷◌, arith, refl}
use Rattle.std.specs.Prelude.{Some}
use Rattle.ftpp_base.specs.declared.element.Round.TheVariants.{A1}
use Rattle.fault_script.specs.declared.EditKind.TheVariants.{Drop}
use Rattle.fault_script.specs.declared.Edit.{Edit}
use Rattle.built_in_tables.specs.Tables.{c4}
use Rattle.built_in_tables.proofs.Valid.{four_valid}
use Rattle.script_text.specs.Reading.{Plan}
use Rattle.command_steps.specs.Loading.{Run}
use Rattle.audited_runs.specs.Audited.{IsCalmRun, SomeRunIsCalm}

abbrev dropped : Edit
dropped = record { cycle = 1; round = Some A1; to = Some 0; what = Drop }

abbrev two_cycles : Plan
two_cycles = record { cycles = 2; faulty = Some 2; acts = []; edits = dropped ∷ []; rejoins = [] }

abbrev run_once : Run
run_once = record { table = c4; plan = two_cycles }

is_calm : IsCalmRun run_once
is_calm = record {
  valid = four_valid;
  playable = record {
    long = omega arith;
    short = omega arith;
    first = omega arith;
    rejoins_order = tt;
    rejoins_apart = tt;
    rejoins = tt;
    acts_order = tt;
    acts = tt;
    few_acts = λ c. omega arith;
    edits_order = (omega arith, omega arith, tt);
    edits = (((omega arith, λ e. let never : ⊥ = omega arith in never), tt), tt);
  };
  calm = refl;
}

pub some_run_is_calm : SomeRunIsCalm
some_run_is_calm = (run_once, is_calm)
