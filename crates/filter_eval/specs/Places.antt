-- Where a component stands in the tree of an object, as ranges ask.
use Rattle.std.specs.Prelude.{◌≡◌, ℕ, Bool, true, false, List, [], ◌∷◌, take, map, count_by, All, IfSome, Option, Some, option_and_then}
use Rattle.std.specs.List.{slice_get}
use Rattle.cal_base.specs.declared.line.Node.{Node}
use Rattle.filter_eval.specs.declared.place.Place.{Place}
use Rattle.filter_eval.specs.declared.place.Place.TheVariants.{Outermost, Child, Within, Deeper}
use Rattle.filter_eval.specs.declared.subject.Spot.{Spot}
use Rattle.filter_eval.specs.declared.subject.Subject.{Subject}
use Rattle.cal_model.specs.declared.object.Component.{Component}
use Rattle.cal_model.specs.declared.object.Object.{Object}
use Rattle.cal_model.specs.declared.row.Row.{Row}
use Rattle.cal_model.specs.Filters.ComponentRanges.{Matched, Site, alarms_before, has_trigger}
use Rattle.cal_model.specs.Filters.Matching.{date_reading}
use Rattle.cal_model.specs.Objects.ComponentLines.{children_of}
use Rattle.cal_model.specs.TimeZones.TableBounds.{IsTable}
use Rattle.overlap_rules.specs.Bounds.{IsNearRow}
use Rattle.filter_eval.specs.AlarmMoments.{AreAllMoments}
use Rattle.filter_eval.specs.Links.{AreLinks}
use Rattle.filter_eval.specs.ReadyTexts.{node_of}

-- the component that a path of places leads to in a tree, the innermost first
abbrev pub node_at : Node → List ℕ → Option Node
node_at tree [] = Some tree
node_at tree (place ∷ path) = option_and_then (λ (node : Node). slice_get (children_of node) place) (node_at tree path)

-- how many alarms with a TRIGGER stand before a place in a component
abbrev pub alarms_in : Node → ℕ → ℕ
alarms_in node place = count_by has_trigger (take place (children_of node))

-- the place that a path of places leads to in an object
abbrev pub place_of : Object → List ℕ → Place
place_of object [] = Outermost
place_of object (child ∷ []) = Child child
place_of object (place ∷ child ∷ []) = Within child (alarms_before object place child)
place_of object (a ∷ b ∷ c ∷ path) = Deeper

-- it is that of a child of the outermost component, in which alarms are numbered
abbrev pub is_child : Place → Bool
is_child (Child child) = true
is_child Outermost = false
is_child (Within child alarms) = false
is_child Deeper = false

-- a spot stands where a site of the definitions does, in the tree of an object
pub record IsAt (object : Object) (spot : Spot) (site : Site) : Type 0 where
  pub node : site.node ≡ spot.node.now
  pub stands : node_at object.tree site.path ≡ Some site.node
  pub place : place_of object site.path ≡ spot.place
  pub timezone : site.in_timezone ≡ spot.in_timezone

-- what is matched, as the definitions have it
abbrev pub matched_of : Subject → Matched
matched_of subject = record { object = subject.object.now; rows = subject.rows.now; zone = subject.zone.now }

-- the number of the component of each row, and the child that each component is
abbrev pub row_keys : List Row → List ℕ
row_keys rows = map (λ (row : Row). row.component) rows

abbrev pub component_keys : List Component → List ℕ
component_keys components = map (λ (component : Component). component.child) components

-- zones with offsets below a day, rows within some three million years, links by these numbers and children, moments of these rows, dates that are read by these zones, and the texts of the object
pub record IsReady (subject : Subject) : Type 0 where
  pub zone : IsTable subject.zone.now
  pub zones : All IsTable subject.object.now.zones
  pub rows : All IsNearRow subject.rows.now
  pub row_links : IfSome subject.row_links (λ links. AreLinks links.now (row_keys subject.rows.now))
  pub component_links : IfSome subject.component_links (λ links. AreLinks links.now (component_keys subject.object.now.components))
  pub moments : IfSome subject.moments (λ all. AreAllMoments (matched_of subject) all.now)
  pub dates : IfSome subject.dates (λ dates. dates.now ≡ date_reading (matched_of subject))
  pub texts : IfSome subject.texts (λ texts. node_of texts.now ≡ subject.object.now.tree)
