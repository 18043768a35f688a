-- What the template that a table names says.
use Rattle.std.proofs.Common.{◌≡◌, ℕ, zero, suc, Bool, List, [], ◌∷◌, Option, Some, None, Contains, refl, sym, ap, ◌∙◌, subst, false}
use Rattle.std.specs.Prelude.{slice_get, codes, if◌then◌else◌, IfSome}
use Rattle.std.specs.List.{AllZip}
use Rattle.std.specs.Option.{option_map, option_and_then}
use Rattle.std.specs.Str.{bytes_eq}
use Rattle.liberty_groups.specs.Groups.{Group, attributes_of, args_of}
use Rattle.liberty_groups.specs.Tables.{Tables, tree_of, group_at}
use Rattle.liberty_tables.specs.Library.{group_for}
use Rattle.liberty_tables.specs.Templates.{template_of, template_named, variables_of}
use Rattle.liberty_tables.specs.TableModel.{PointsMean, HasVariables}
use Rattle.liberty_tables.specs.TemplateIndex.{IsReadOf, IsReadAt, AreTemplates, IsNamedBy, IsUnder}
use Rattle.liberty_tables.specs.declared.library_units.LibraryUnits.{LibraryUnits}
use Rattle.liberty_tables.specs.declared.table_names.TableNames.{TableNames}
use Rattle.liberty_tables.specs.declared.templates.Template.{Template}
use Rattle.liberty_tables.specs.declared.templates.Templates.{Templates}
use Rattle.liberty_tables.proofs.Fronts.{some_is}
use Rattle.liberty_tables.proofs.IndexLemmas.{found_first, absent_first}

-- the element of a pair of lists that belongs to one of the other
paired : {A B : Type 0} (R : A → B → Type 0) (xs : List A) (ys : List B) (k : ℕ) (y : B) → AllZip R xs ys → slice_get ys k ≡ Some y → (x : A) × ((slice_get xs k ≡ Some x) × R x y)
paired R [] [] k y all at = absurd (cc)
paired R [] (b ∷ ys) k y all at = absurd all
paired R (a ∷ xs) [] k y all at = absurd all
paired R (a ∷ xs) (b ∷ ys) zero y all at = (a, (refl, subst (R a) (some_is b y at) all.0))
paired R (a ∷ xs) (b ∷ ys) (suc k) y all at = paired R xs ys k y all.1 at

-- a table that names the built-in template
pub named_scalar : (tree : Tables) (called : TableNames) (units : LibraryUnits) (table : Group) (template : Option Template) → slice_get (args_of table) 0 ≡ Some (codes "scalar") → IsReadOf called units [] template
    → IsNamedBy called units (tree_of tree) table template
named_scalar tree called units table template at read = record { attributes = []; named = ap (option_and_then (template_named (tree_of tree))) at; read = read }

-- what a name stands for that is not built in
named_other : (library table : Group) (name : List ℕ) → slice_get (args_of table) 0 ≡ Some name → bytes_eq name (codes "scalar") ≡ false
    → template_of library table ≡ option_map attributes_of (group_for (codes "lu_table_template") name library)
named_other library table name at other =
    ap (option_and_then (template_named library)) at
    ∙ ap (λ (b : Bool). if b then Some [] else option_map attributes_of (group_for (codes "lu_table_template") name library)) other

-- a table that names one of the library
pub named_held : (tree : Tables) (called : TableNames) (units : LibraryUnits) (templates : Templates) (table : Group) (name : List ℕ) (template : Option Template)
    → AreTemplates tree called units templates → slice_get (args_of table) 0 ≡ Some name → bytes_eq name (codes "scalar") ≡ false
    → IsUnder templates.index.args templates.read.items name template → IsNamedBy called units (tree_of tree) table template
named_held tree called units templates table name template are at other under =
    let of = paired (IsReadAt tree called units) templates.index.groups.items templates.read.items under.place template are.read under.here in
    record {
      attributes = attributes_of (group_at tree of.0.0);
      named = named_other (tree_of tree) table name at other
          ∙ ap (option_map attributes_of) (found_first tree (codes "lu_table_template") (tree_of tree) templates.index.args templates.index.groups.items under.place name of.0 are.indexed under.named of.1.0);
      read = of.1.1;
    }

-- and one that names none
pub named_none : (tree : Tables) (called : TableNames) (units : LibraryUnits) (templates : Templates) (table : Group) (name : List ℕ)
    → AreTemplates tree called units templates → slice_get (args_of table) 0 ≡ Some name → bytes_eq name (codes "scalar") ≡ false
    → ¬ Contains templates.index.args name → template_of (tree_of tree) table ≡ None
named_none tree called units templates table name are at other out =
    named_other (tree_of tree) table name at other
    ∙ ap (option_map attributes_of) (absent_first tree (codes "lu_table_template") (tree_of tree) templates.index.args templates.index.groups.items name are.indexed out)

-- ---- what it says, where its variables are known, and where not

module _ (called : TableNames) (units : LibraryUnits) (library table : Group) (read : Option Template) (by : IsNamedBy called units library table read) where
  pub no_known : read ≡ None → variables_of called by.attributes ≡ None
  no_known is = sym by.read.variables ∙ ap (option_map (λ (t : Template). t.variables)) is

  pub laid_out : (template : Template) → read ≡ Some template → HasVariables called library table by.attributes template.variables
  laid_out template is = record { named = by.named; known = sym by.read.variables ∙ ap (option_map (λ (t : Template). t.variables)) is }

  pub first_of : (template : Template) → read ≡ Some template → PointsMean called units (codes "index_1") [] by.attributes template.variables.first template.first
  first_of template is = subst (λ r. IfSome r (λ (t : Template). PointsMean called units (codes "index_1") [] by.attributes t.variables.first t.first)) is by.read.first

  pub second_of : (template : Template) → read ≡ Some template → PointsMean called units (codes "index_2") [] by.attributes template.variables.second template.second
  second_of template is = subst (λ r. IfSome r (λ (t : Template). PointsMean called units (codes "index_2") [] by.attributes t.variables.second t.second)) is by.read.second
