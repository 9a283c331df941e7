-- No test of clocks or of a request reports that memory ran out.
use Rattle.std.proofs.Common.{◌≡◌, ◌∙◌, ℕ, pos, Bool, true, false}
use Rattle.std.specs.Prelude.{Option, Some, None, if◌then◌else◌, option_map, nat_eq, nat_lt}
use Rattle.tk_counter.specs.Counter.{Counter, gap, half}
use Rattle.tk_clock.specs.declared.command.Command.{Command}
use Rattle.tk_clock.specs.declared.command.Command.TheVariants.{Step, Tai, Update}
use Rattle.tk_clock.specs.declared.clock_id.ClockId.TheVariants.{Realtime}
use Rattle.tk_clock.specs.declared.refusal.Refusal.{Refusal}
use Rattle.tk_clock.specs.declared.refusal.Refusal.TheVariants.{Behind, Invalid, Memory}
use Rattle.tk_clock.specs.declared.refusal.ReadError.{ReadError}
use Rattle.tk_clock.specs.declared.refusal.ReadError.TheVariants as read
use Rattle.tk_clock.specs.declared.timespec.Timespec.{Timespec}
use Rattle.tk_clock.specs.Journal.{Journal}
use Rattle.tk_clock.specs.Refusal.{first_of, order_refusal, read_refusal, refusal_of, state_refusal}
use Rattle.tk_clock.specs.State.{state_of}
use Rattle.tk_clock.proofs.Ledger.{clock_refusal-state}
use Rattle.tk_clock.proofs.Refusals.{never_memory}
use Rattle.tk_ntp.specs.declared.timex.Timex.{Timex}
use Rattle.tk_ntp.specs.Advance.{tai_of_clock}
use Rattle.tk_ntp.specs.Asked.{first_fault, real_refusal, request_refusal, step_refusal, tai_asked, tai_refusal}
use Rattle.tk_ntp.specs.Course.{Course, seen}
use Rattle.tk_ntp.specs.Fault.{is_faulty}
use Rattle.tk_ntp.specs.SteeredClock.{reading_refusal}

-- no refusal, or one that isn't about memory
abbrev pub IsNever : Option Refusal → Type 0
IsNever refused = refused ≡ Some Memory → ⊥

first-never : (a b : Option Refusal) → IsNever a → IsNever b → IsNever (first_of a b)
first-never None b ha hb = hb
first-never (Some refusal) b ha hb = ha

pub state-never : (journal : Journal) (reading : ℕ) (cmd : Command) →
    IsNever (state_refusal (state_of journal) reading cmd)
state-never journal reading cmd = λ e.
    never_memory journal (record { who = 0; reading = reading; cmd = cmd })
    (clock_refusal-state journal 0 reading cmd ∙ e)

order-if : (test : Bool) → IsNever (if test then Some Behind else None)
order-if true = λ e. cc e
order-if false = λ e. cc e

order-never : (counter : Counter) (mark reading : ℕ) →
    IsNever (order_refusal counter mark reading Update)
order-never counter mark reading =
    order-if (nat_lt (half counter) (gap counter mark reading))

pub reading-never : (journal : Journal) (reading : ℕ) (course : Course) →
    IsNever (reading_refusal reading (seen (state_of journal) course))
reading-never journal reading course =
    first-never (state_refusal (state_of journal) reading Update)
    (order_refusal (state_of journal).base.counter course.last_account reading Update)
    (state-never journal reading Update)
    (order-never (state_of journal).base.counter course.last_account reading)

faulty-if : (test : Bool) → IsNever (if test then Some Invalid else None)
faulty-if true = λ e. cc e
faulty-if false = λ e. cc e

pub fault-never : (journal : Journal) (reading : ℕ) (request : Timex) (course : Course) →
    IsNever (first_fault reading request (seen (state_of journal) course))
fault-never journal reading request course =
    first-never (if is_faulty request then Some Invalid else None)
    (reading_refusal reading (seen (state_of journal) course)) (faulty-if (is_faulty request))
    (reading-never journal reading course)

pub step-never : (journal : Journal) (reading : ℕ) (step : Option Timespec) (course : Course) →
    IsNever (step_refusal reading step (seen (state_of journal) course))
step-never journal reading None course = λ e. cc e
step-never journal reading (Some by) course = state-never journal reading (Step by)

real-if : (error : Option ReadError) → IsNever (option_map refusal_of error)
real-if None = λ e. cc e
real-if (Some read.Invalid) = λ e. cc e
real-if (Some read.Range) = λ e. cc e

tai-if : (journal : Journal) (reading tai : ℕ) (same : Bool) →
    IsNever (if same then None else state_refusal (state_of journal) reading (Tai (pos tai)))
tai-if journal reading tai true = λ e. cc e
tai-if journal reading tai false = state-never journal reading (Tai (pos tai))

pub request-never : (journal : Journal) (reading : ℕ) (request : Timex) (course : Course) →
    IsNever (request_refusal reading request (seen (state_of journal) course))
request-never journal reading request course =
    let steered = seen (state_of journal) course in
    let tai = tai_asked request steered in
    first-never (real_refusal reading (state_of journal))
    (tai_refusal reading tai (state_of journal))
    (real-if (read_refusal (state_of journal).base Realtime reading))
    (tai-if journal reading tai (nat_eq tai (tai_of_clock (state_of journal))))
