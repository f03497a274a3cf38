-- What a line's description says, as the shape that lines are judged by.
-- Renders document 01, "Where a sheet is turned back": the rows with place Line.
use Rattle.linekinds.specs.Lines.{Kind}
use Rattle.plansheet.specs.Shapes.{Shape, tree_line}
use Rattle.plansheet.specs.ReadRows.{shape_of}
use Rattle.plansheet.specs.declared.description.LineShape.{LineShape}
use Rattle.plansheet.specs.declared.description.TreeShape.{TreeShape}

abbrev pub shape_by : LineShape → Shape
shape_by h = shape_of h.letter h.bounds.now h.sizes.now h.codes.now

abbrev pub tree_by : TreeShape → Kind
tree_by h = tree_line (shape_by h.line) h.rules.now h.most
