-- The fields that are written to C's storage for steered clocks.
use Rattle.std.specs.Prelude.{ℕ, ◌∷◌, []}
use Rattle.tk_ntp.specs.declared.numbers.DisciplineNumbers.{DisciplineNumbers}
use Rattle.tk_ntp.specs.Ntp.{second_length}
use Rattle.tk_ntp.specs.Numbers.{discipline_numbers, lag_numbers}
use Rattle.tk_ntp.specs.SteeredClock.{SteeredClock}
use Rattle.tk_c.specs.declared.ntp_storage.DisciplineStorage.{DisciplineStorage}
use Rattle.tk_c.specs.declared.ntp_storage.NtpStorage.{NtpStorage}
use Rattle.tk_c.specs.Storage.{base_storage}

-- the numbers of a discipline; the padding is 0, so every byte is written
abbrev pub discipline_storage : DisciplineNumbers → DisciplineStorage
discipline_storage numbers = record {
  hz = numbers.hz;
  status = numbers.status;
  state = numbers.plan.state;
  is_due = numbers.plan.is_due;
  padding = 0 ∷ 0 ∷ 0 ∷ [];
  due = numbers.plan.due;
  offset = numbers.offset;
  constant = numbers.constant;
  maxerror = numbers.maxerror;
  esterror = numbers.esterror;
  tick = numbers.tick;
  frequency = numbers.frequency;
  reftime = numbers.reftime;
  adjust = numbers.adjust;
  phase = numbers.phase;
}

-- steered clocks after `front` accepted commands
abbrev pub ntp_storage : ℕ → SteeredClock → NtpStorage
ntp_storage front steered = record {
  base = base_storage steered.clock.base;
  frequency = steered.clock.frequency;
  tick = steered.clock.tick;
  ntp = discipline_storage (discipline_numbers steered.steering.ntp);
  lag = lag_numbers steered.steering.lag;
  length = second_length steered.steering.ntp;
  next = steered.next;
  last_account = steered.last_account;
  front = front;
}
