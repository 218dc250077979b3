use Rattle.dump_bytes.proofs.OneAnswer.{some_answer, one_dump, one_place}
use Rattle.dump_bytes.proofs.Outcomes.{not_both}
use Rattle.dump_bytes.proofs.laws.each_input_has_one_answer.Goals as goal

pub returns : goal.returns
returns c = record {
  some = some_answer;
  one_dump = one_dump;
  one_place = one_place;
  not_both = λ bytes d n t bad. not_both bytes n d t bad;
}
