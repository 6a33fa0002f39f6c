-- Benchmarks and order limits of a member.
use Rattle.std.specs.Prelude.{ℕ, ◌*◌, max, Bool, true, false}
use Rattle.market.specs.declared.instruments.Benchmark.{Benchmark}
use Rattle.market.specs.declared.instruments.Benchmark.TheVariants.{Mibor, Mmfor}
use Rattle.market.specs.declared.instruments.TenorGroup.{TenorGroup}
use Rattle.market.specs.declared.instruments.TenorGroup.TheVariants.{UpToOneYear, UpToFiveYears, OverFiveYears}
use Rattle.market.specs.declared.members.Benchmarks.{Benchmarks}
use Rattle.market.specs.declared.members.Benchmarks.TheVariants.{Mibor as OnlyMibor, Mmfor as OnlyMmfor, Both}
use Rattle.market.specs.declared.members.Limits.{Limits}
use Rattle.market.specs.TableRows.{Member}

abbrev pub opted : Benchmarks → Benchmark → Bool
opted OnlyMibor Mibor = true
opted OnlyMibor Mmfor = false
opted OnlyMmfor Mibor = false
opted OnlyMmfor Mmfor = true
opted Both benchmark = true

abbrev pub is_over_five_years : TenorGroup → Bool
is_over_five_years UpToOneYear = false
is_over_five_years UpToFiveYears = false
is_over_five_years OverFiveYears = true

-- The single order limit for a group of tenors.
abbrev pub limit_for : TenorGroup → Limits → ℕ
limit_for UpToOneYear limits = limits.up_to_one_year
limit_for UpToFiveYears limits = limits.up_to_five_years
limit_for OverFiveYears limits = limits.over_five_years

abbrev pub highest_limit : Limits → ℕ
highest_limit limits = max limits.up_to_one_year (max limits.up_to_five_years limits.over_five_years)

abbrev pub accumulated_multiple : Benchmarks → ℕ
accumulated_multiple OnlyMibor = 4
accumulated_multiple OnlyMmfor = 4
accumulated_multiple Both = 5

-- The most lots that a member may have pending in all instruments together.
abbrev pub accumulated_limit : Member → ℕ
accumulated_limit member = highest_limit member.limits * accumulated_multiple member.benchmarks
