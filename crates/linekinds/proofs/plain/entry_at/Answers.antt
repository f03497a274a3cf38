-- `linekinds::plain::entry_at` meets its contract: three fields, one after the other (`more_fields`).
use mathlib.Core.Path.{sym, ◌∙◌}
use mathlib.Core.List.{[], ◌∷◌}
use Rattle.linekinds.proofs.PlainText.{more_fields}
use Rattle.linekinds.proofs.plain.entry_at.Goals as goal

pub pack-requires : goal.pack-requires
pack-requires c = (c.in_ok-kind.ensures.1, c.in_ok-name.ensures.1, c.in_ok-index.ensures.1)

pub returns : goal.returns
returns c =
    let kind = c.in_ok-kind.kind in let name = c.in_ok-name.name in let index = c.in_ok-index.index in
    record {
      kind = kind.value;
      name = name.value;
      index = index.value;
      text =
          more_fields _ (kind.value ∷ []) (name.value ∷ index.value ∷ []) _ _ _ c.in_ok-kind.ensures.0
          (more_fields _ (name.value ∷ []) (index.value ∷ []) _ _ _ c.in_ok-name.ensures.0 c.in_ok-index.ensures.0);
      small = (c.in_ok-kind.ensures.1, (c.in_ok-name.ensures.1, (c.in_ok-index.ensures.1, tt)));
      defined = sym c.defined_expr.ensures ∙ c.if-not-defined_expr.false;
      packs = c.pack.ensures;
    }
