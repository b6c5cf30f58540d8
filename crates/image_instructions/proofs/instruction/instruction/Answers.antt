use Rattle.std.proofs.Common.{◌≡◌, true, false, sym, rules}
use denote.Enum.Bare.{same_true}
use Rattle.image_instructions.specs.contracts.form.Aux.{the_type}
use Rattle.image_instructions.proofs.Readers.{four_words}
use Rattle.image_instructions.proofs.Instructions.{instruction_short, instruction_kind_out, instruction_lvalue_out, instruction_aux_out, instruction_items_out, instruction_plain, instruction_naming, function_below}
use Rattle.image_instructions.proofs.instruction.instruction.Goals as goal
use Rattle.image_instructions.proofs.instruction.instruction.Goals.{then-lvalue-reader-via-then-lvalue-reader, then-lvalue-reader-via-else-lvalue-reader+then-not-aux_allowed, then-eq, else-eq}

pub returns-in_default : goal.returns-in_default
returns-in_default g c = instruction_short _ _ c.in_default.len_below

pub returns-in_err-aux_form : goal.returns-in_err-aux_form
returns-in_err-aux_form g c = rw c.from_residual.ensures (instruction_kind_out _ _ (four_words _ c.in-len4-up.len_at_least) c.in_err-aux_form.ensures)

pub returns-then-lvalue-reader : goal.returns-then-lvalue-reader
returns-then-lvalue-reader g c =
    let e = four_words _ c.in-len4-up.len_at_least in
    let (f, q, s) = c.in_ok-aux_form.ensures in
    elim c.then-lvalue-reader.branch [
      | then-lvalue-reader-via-then-lvalue-reader w ↦ instruction_lvalue_out _ _ e _ _ q s.aux s.items w.if-lvalue-reader.true
      | then-lvalue-reader-via-else-lvalue-reader+then-not-aux_allowed w ↦
          instruction_aux_out _ _ e _ _ q s.aux s.items w.if-lvalue-reader.false (sym w.if-not-aux_allowed.ensures)
    ]

pub returns-in_err-rest : goal.returns-in_err-rest
returns-in_err-rest g c =
    let (f, q, s) = c.in_ok-aux_form.ensures in
    rw c.from_residual-in_err-rest.ensures
    (instruction_items_out _ _ (four_words _ c.in-len4-up.len_at_least) _ _ q s.aux s.items c.if-lvalue-reader.false (sym c.if-not-aux_allowed.ensures) c.in_err-rest.ensures)

pub note-requires : goal.note-requires
note-requires g c = (search rules, function_below _ _ _ (same_true the_type (search rules) _ _ (sym c.if-eq.ensures)) (sym c.if-not-aux_allowed.ensures))

pub returns : goal.returns
returns g c =
    let e = four_words _ c.in-len4-up.len_at_least in
    let (f, q, s) = c.in_ok-aux_form.ensures in
    elim c.if-eq.branch [
      | then-eq w ↦
          rw w.reader-is (instruction_naming _ _ e _ _ q s.aux s.items c.if-lvalue-reader.false (sym c.if-not-aux_allowed.ensures) _ _ c.in_ok-rest.ensures
          (same_true the_type (search rules) _ _ (sym w.if-eq.ensures)) w.note.ensures)
      | else-eq w ↦
          rw w.reader-is (instruction_plain _ _ e _ _ q s.aux s.items c.if-lvalue-reader.false (sym c.if-not-aux_allowed.ensures) _ c.args.reader.now c.in_ok-rest.ensures
          (λ d. let h : false ≡ true = rw d at w.if-eq.ensures in cc))
    ]
