-- `put_plan_sheet` meets its contract: six parts, one after another.
use Rattle.lines.proofs.Pieces.{due_room, due_then, due_none}
use Rattle.plananswer.proofs.SheetRows.{sheet_due}
use Rattle.plananswer.proofs.sheet_text.put_plan_sheet.Goals as goal

pub put_settings-at_tree-requires : goal.put_settings-at_tree-requires
put_settings-at_tree-requires c = due_room (sheet_due _ _ _ _ _ _ _ _ c.requires)

pub put_rows-at_node-requires : goal.put_rows-at_node-requires
put_rows-at_node-requires c = due_room (due_then (sheet_due _ _ _ _ _ _ _ _ c.requires) c.put_settings-at_tree.ensures)

pub put_node_facts-at_children-requires : goal.put_node_facts-at_children-requires
put_node_facts-at_children-requires c = due_room (due_then (due_then (sheet_due _ _ _ _ _ _ _ _ c.requires) c.put_settings-at_tree.ensures) c.put_rows-at_node.ensures)

pub put_rows-at_facts-requires : goal.put_rows-at_facts-requires
put_rows-at_facts-requires c = due_room (due_then (due_then (due_then (sheet_due _ _ _ _ _ _ _ _ c.requires) c.put_settings-at_tree.ensures) c.put_rows-at_node.ensures) c.put_node_facts-at_children.ensures)

pub put_rows-at_masks-requires : goal.put_rows-at_masks-requires
put_rows-at_masks-requires c = due_room (due_then (due_then (due_then (due_then (sheet_due _ _ _ _ _ _ _ _ c.requires) c.put_settings-at_tree.ensures) c.put_rows-at_node.ensures) c.put_node_facts-at_children.ensures) c.put_rows-at_facts.ensures)

pub put_numbers-requires : goal.put_numbers-requires
put_numbers-requires c = due_room (due_then (due_then (due_then (due_then (due_then (sheet_due _ _ _ _ _ _ _ _ c.requires) c.put_settings-at_tree.ensures) c.put_rows-at_node.ensures) c.put_node_facts-at_children.ensures) c.put_rows-at_facts.ensures) c.put_rows-at_masks.ensures)

pub returns : goal.returns
returns c = due_none (due_then (due_then (due_then (due_then (due_then (due_then (sheet_due _ _ _ _ _ _ _ _ c.requires) c.put_settings-at_tree.ensures) c.put_rows-at_node.ensures) c.put_node_facts-at_children.ensures) c.put_rows-at_facts.ensures) c.put_rows-at_masks.ensures) c.put_numbers.ensures)
