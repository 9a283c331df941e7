use Rattle.std.proofs.Common.{rules, ◌≡◌, length}
use Rattle.tk_c.proofs.Narrow.{words_back}
use Rattle.tk_c.proofs.StoredNumbers.{set_numbers}
use Rattle.tk_c.proofs.number_words.store_numbers.Goals as goal

pub returns-clause-value : goal.returns-clause-value
returns-clause-value c =
    let all : length c.args.words.now ≡ 18 = c.told-words in
    rw set_numbers (search rules)

pub returns-clause-back : goal.returns-clause-back
returns-clause-back c =
    words_back c.args.numbers (search rules) (search rules) (search rules) (search rules)
    (search rules) (search rules) (search rules) (search rules) (search rules) (search rules)
    (search rules) (search rules)
