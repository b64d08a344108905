use Rattle.std.proofs.Common.{refl, sym, ap, ◌∙◌}
use Rattle.values.specs.Data.{no_vals, and_val}
use Rattle.values.specs.Replies.{list_table}
use Rattle.values.specs.Verbs.{text_of}
use Rattle.values.specs.View.{val_of}
use Rattle.values.proofs.Tables.{beyond_one, replied}
use Rattle.values.proofs.Rows.{found_word, alone_leads, with_one_leads}
use Rattle.values.specs.declared.verb.Word.TheVariants as word
use Rattle.values.proofs.lists.list_call.Goals as goal

pub returns-in_default : goal.returns-in_default
returns-in_default c = replied c.no_method-in_default.result _ _ (sym (beyond_one (list_table c.args.items.now) c.args.verb.now (λ v w ws. refl) c.args.arguments.now c.in_default.len_at_least)) c.no_method-in_default.ensures

pub returns-in-Some-Size : goal.returns-in-Some-Size
returns-in-Some-Size c =
    let verb = found_word c.args.verb.now word.Size c.word.ensures c.in-Some-Size.is c.in-Some-Size.field-0-is in
    replied c.list_size.result _ _ (ap (λ vs. list_table vs (text_of word.Size) no_vals) c.as_slice.ensures ∙ alone_leads (list_table c.args.items.now) c.args.arguments.now verb c.in-empty.len_below) c.list_size.ensures

pub returns-in-Some-Add : goal.returns-in-Some-Add
returns-in-Some-Add c =
    let verb = found_word c.args.verb.now word.Add c.word-in-len1.ensures c.in-Some-Add.is c.in-Some-Add.field-0-is in
    replied c.list_add.result _ _ (with_one_leads (list_table c.args.items.now) c.args.arguments.now c.argument-item.result verb c.argument-item.is c.in-len1.len_at_least c.in-len1.len_below) c.list_add.ensures

pub returns-in-Some-With : goal.returns-in-Some-With
returns-in-Some-With c =
    let verb = found_word c.args.verb.now word.With c.word-in-len1.ensures c.in-Some-With.is c.in-Some-With.field-0-is in
    replied c.list_with.result _ _ (with_one_leads (list_table c.args.items.now) c.args.arguments.now c.argument-item.result verb c.argument-item.is c.in-len1.len_at_least c.in-len1.len_below) c.list_with.ensures

pub returns-in-Some-Get : goal.returns-in-Some-Get
returns-in-Some-Get c =
    let verb = found_word c.args.verb.now word.Get c.word-in-len1.ensures c.in-Some-Get.is c.in-Some-Get.field-0-is in
    replied c.list_get.result _ _ (ap (λ vs. list_table vs (text_of word.Get) (and_val (val_of c.argument-item.result) no_vals)) c.as_slice-in-Some-Get.ensures ∙ with_one_leads (list_table c.args.items.now) c.args.arguments.now c.argument-item.result verb c.argument-item.is c.in-len1.len_at_least c.in-len1.len_below) c.list_get.ensures
