use Rattle.rb_plan.specs.Inlined.{Site}
use Rattle.rb_plan.proofs.Told.{site_told}
use Rattle.rb_plan.proofs.naming.site_names.Goals as goal

pub returns : goal.returns
returns c =
    let here : Site = record {
      held = c.site.inside.held.now;
      values = c.site.inside.values;
      project = c.site.inside.project.now;
      user = c.site.inside.user.now;
    } in
    rw (← c.site.view_is) (site_told _ _ _ _ _ here _ _ _ c.in_ok-names.ensures c.as_slice.ensures c.in_ok-put_own_names.ensures
    c.as_str.ensures c.as_str-2.ensures c.as_str-id.ensures c.in_ok-put_name.ensures c.in_ok-put_name-2.ensures)
