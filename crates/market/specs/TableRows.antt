-- The rows of the tables of members and of instruments, by number: also those where nobody is admitted and nothing is defined.
use Rattle.std.specs.Prelude.{ℕ, Bool, true, false, Some, None, Option}
use Rattle.market.specs.declared.instruments.Benchmark.{Benchmark}
use Rattle.market.specs.declared.instruments.Benchmark.TheVariants.{Mibor}
use Rattle.market.specs.declared.instruments.Instrument.{Instrument as DefinedInstrument}
use Rattle.market.specs.declared.instruments.TenorGroup.{TenorGroup}
use Rattle.market.specs.declared.instruments.TenorGroup.TheVariants.{UpToOneYear}
use Rattle.market.specs.declared.members.Benchmarks.{Benchmarks}
use Rattle.market.specs.declared.members.Benchmarks.TheVariants.{Mibor as OnlyMibor}
use Rattle.market.specs.declared.members.Limits.{Limits}
use Rattle.market.specs.declared.members.Member.{Member as AdmittedMember}
use Rattle.market.specs.declared.members.Mode.{Mode}
use Rattle.market.specs.declared.members.Mode.TheVariants.{Reduction}

pub record Member : Type 0 where
  pub admitted : Bool
  pub benchmarks : Benchmarks
  pub limits : Limits
  pub deposit : ℕ
  pub mode : Mode

pub record Instrument : Type 0 where
  pub defined : Bool
  pub benchmark : Benchmark
  pub group : TenorGroup

abbrev pub blank_member : Member
blank_member =
    record {
      admitted = false;
      benchmarks = OnlyMibor;
      limits = record { up_to_one_year = 0; up_to_five_years = 0; over_five_years = 0 };
      deposit = 0;
      mode = Reduction;
    }

abbrev pub blank_instrument : Instrument
blank_instrument = record { defined = false; benchmark = Mibor; group = UpToOneYear }

-- ---- a row as the code holds it: a member or an instrument, or none

abbrev pub admitted_row : AdmittedMember → Member
admitted_row member =
    record { admitted = true; benchmarks = member.benchmarks; limits = member.limits; deposit = member.deposit; mode = member.mode }

abbrev pub member_row : Option AdmittedMember → Member
member_row None = blank_member
member_row (Some member) = admitted_row member

abbrev pub defined_row : DefinedInstrument → Instrument
defined_row instrument = record { defined = true; benchmark = instrument.benchmark; group = instrument.group }

abbrev pub instrument_row : Option DefinedInstrument → Instrument
instrument_row None = blank_instrument
instrument_row (Some instrument) = defined_row instrument
