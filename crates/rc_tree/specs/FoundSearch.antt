-- What a search has found so far, as lists.
use Rattle.rc_tree.specs.declared.found.Found.{Found}
use Rattle.rc_tree.specs.Searches.{Search}

abbrev pub search_of : Found → Search
search_of found = record {
  order = found.order.items;
  parents = found.parents.items;
  vias = found.vias.items;
  numbers = found.numbers.items;
  links = found.links.items;
}
