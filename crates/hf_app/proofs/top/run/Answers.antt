use Rattle.std.proofs.Common.{map, inr}
use Rattle.std.specs.Prelude.{string_bytes}
use Rattle.hf_text.specs.Commands.{command_of}
use Rattle.hf_text.specs.Words.{command_read}
use Rattle.hf_text.proofs.WordLaws.{command-reads}
use Rattle.hf_app.proofs.Dues.{complete_of_words, due_of_words, one_command, steady_of_words, usage_due}
use Rattle.hf_app.proofs.top.run.Goals as goal

pub answer-requires-clause-few : goal.answer-requires-clause-few
answer-requires-clause-few g c =
    let texts = map string_bytes c.args.words.now in
    (command-reads texts (command_of texts c.in-Ok.command) c.in-Ok.ensures.read).0

pub returns-in-Ok-clause-headline : goal.returns-in-Ok-clause-headline
returns-in-Ok-clause-headline g c = λ command is.
    let texts = map string_bytes c.args.words.now in
    one_command (command_read texts) (command_of texts c.in-Ok.command) c.in-Ok.ensures.read c.answer.result
    (g.D.Desk.outside c.args.desk.now) _ c.answer.ensures.ends command is

pub returns-in-Ok-clause-due : goal.returns-in-Ok-clause-due
returns-in-Ok-clause-due g c =
    let texts = map string_bytes c.args.words.now in
    due_of_words (command_read texts) (command_of texts c.in-Ok.command) c.in-Ok.ensures.read c.answer.result
    (g.D.Desk.outside c.args.desk.now) _ c.answer.ensures.ends

pub returns-in-Ok-clause-steady : goal.returns-in-Ok-clause-steady
returns-in-Ok-clause-steady g c =
    let texts = map string_bytes c.args.words.now in
    steady_of_words (command_read texts) (command_of texts c.in-Ok.command) c.in-Ok.ensures.read c.answer.result
    (g.D.Desk.outside c.args.desk.now) _ c.answer.ensures.ends c.answer.ensures.steady

pub returns-in-Ok-clause-complete : goal.returns-in-Ok-clause-complete
returns-in-Ok-clause-complete g c =
    let texts = map string_bytes c.args.words.now in
    complete_of_words (command_read texts) (command_of texts c.in-Ok.command) c.in-Ok.ensures.read c.answer.result
    (g.D.Desk.outside c.args.desk.now) _ c.answer.ensures.ends c.answer.ensures.cause

pub returns-in-Err-Usage-clause-due : goal.returns-in-Err-Usage-clause-due
returns-in-Err-Usage-clause-due g c =
    let o = g.D.Desk.outside c.args.desk.now in
    let read = rw c.in-Err-Usage.field-0-is at c.in-Err-Usage.ensures.read in
    rw c.in-Err-Usage.at-is (usage_due (command_read (map string_bytes c.args.words.now)) o o c.in-Err-Usage.at read)

pub returns-in-Err-Usage-clause-steady : goal.returns-in-Err-Usage-clause-steady
returns-in-Err-Usage-clause-steady g c = λ steady free.
    let o = g.D.Desk.outside c.args.desk.now in
    let read = rw c.in-Err-Usage.field-0-is at c.in-Err-Usage.ensures.read in
    rw c.in-Err-Usage.at-is (λ defined. inr (usage_due (command_read (map string_bytes c.args.words.now)) o o c.in-Err-Usage.at read defined))

pub returns-in-Err-Usage-clause-complete : goal.returns-in-Err-Usage-clause-complete
returns-in-Err-Usage-clause-complete g c = λ reads writes.
    let o = g.D.Desk.outside c.args.desk.now in
    let read = rw c.in-Err-Usage.field-0-is at c.in-Err-Usage.ensures.read in
    rw c.in-Err-Usage.at-is (λ defined. inr (usage_due (command_read (map string_bytes c.args.words.now)) o o c.in-Err-Usage.at read defined))

pub returns-in-Err-Usage-clause-headline : goal.returns-in-Err-Usage-clause-headline
returns-in-Err-Usage-clause-headline g c = λ command is. let read = rw c.in-Err-Usage.field-0-is at c.in-Err-Usage.ensures.read in absurd (cc)
